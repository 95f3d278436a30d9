-- A document gives the same where its entries have other answers that are alike to all that styles name.
use Rattle.std.proofs.Common.{arith, ◌≡◌, ℕ, ◌+◌, Bool, true, false, cond, ◌||◌, List, [], ◌∷◌, ◌++◌, length, map, is_some, find, refl, sym, ap, ◌∙◌, Option, Some, None}
use Rattle.std.specs.Prelude.{filter_map, if◌then◌else◌, Ok, Err}
use Rattle.std.specs.List.{AllByRecursion, enumerate_from, flat_map, zip}
use Rattle.std.specs.Option.{option_and_then, option_map}
use Rattle.std.proofs.lemmas.List.Elements.{recursion_from_All}
use Rattle.std.proofs.Math.Path.{fun_ext}
use Rattle.rendering_context.specs.Cites.{DisambiguateState, undisambiguated}
use Rattle.rendering_entries.specs.Answers.{Answers}
use Rattle.rendering_nodes.specs.Named.{AreAlike, Named, always_named, joined_named}
use Rattle.rendering_nodes.proofs.AnswersAlike.{first_alike, first_named, others_named}
use Rattle.rendering_style.specs.Styles.{Bibliography}
use Rattle.rendering_taxonomy.specs.declared.variable.DateVariable.TheVariants as date
use Rattle.rendering_taxonomy.specs.declared.variable.Variable.TheVariants as variables
use Rattle.rendering_tree.specs.Metas as metas
use Rattle.rendering_tree.specs.Trees.{element_with, names_element}
use Rattle.rendering.specs.Alike.{named_in_bibliography, style_named}
use Rattle.rendering.specs.Purposes as purposes
use Rattle.rendering_context.specs.Contexts.{StyleContext}
use Rattle.rendering_people.specs.Properties.{raised_to}
use Rattle.rendering.specs.Purposes.{bibliography, citation}
use Rattle.rendering.specs.Words.{joining_quotes}
use Rattle.rendering.proofs.CitesAlike.{cites_alike, items_alike, layouts_alike}
use Rattle.driver_requests.specs.Cites.{Cite, Numbered, cite_at, cites_after, cites_of, entry_of, properties_of}
use Rattle.driver_requests.specs.Errors.{overflow}
use Rattle.driver_requests.specs.Order.{cited, numbers_overflow}
use Rattle.driver_requests.specs.Positions.{with_previous}
use Rattle.driver_requests.specs.Requests.{Item, Request}
use Rattle.driver_disambiguation.specs.States.{suffixes_overflow}
use Rattle.driver_disambiguation.specs.Rounds.{Disambiguation, disambiguated}
use Rattle.driver_blocks.specs.Collapsing.{arranged}
use Rattle.driver_blocks.specs.Runs.{Arranged}
use Rattle.driver_bibliography.specs.Items.{items_of}
use Rattle.driver_citations.specs.Citations.{citation_of}
use Rattle.driver_rounds.specs.Documents.{Document, order_in}
use Rattle.driver.specs.Finish.{citation_in, finish, is_final_of, item_of_cite, item_of_entry, item_properties, printed_item, rendered_from, shown}
use Rattle.driver.specs.Renaming.{arranged_as, gathered_as}
use Rattle.driver.specs.Stages.{Final, arranged_for, cite_of, final, finals_in, first_print_of, gathered_by, has_purpose, located, state_for, printed_at_last}
use Rattle.driver_rounds.specs.FirstPrints.{FirstPrint, candidate, disambiguated_in, first_naming, first_print, first_prints_in, first_states_in, flattened, has_suffix_date, kept_where, named_after, numbered_after, numbered_in, printed_by, printed_undisambiguated, printed_with, purpose_at_first, repeats_by, ruled_states, with_first_names}
use Rattle.driver_names.specs.FirstNames.{first_names}
use Rattle.driver_names.specs.Prints.{printed_as}
use Rattle.driver_disambiguation.specs.States.{States, states_after, undisambiguated_states}
use Rattle.driver.proofs.ArrangedRenamed.{arranged_renamed}
use Rattle.driver.proofs.DocumentsRenamed.{adds_same, cited_same, numbered_same, numbered_with, order_same, purpose_same, naming_same}
use Rattle.driver.proofs.FinalPrintsOf.{finals_all, prints_all}
use Rattle.driver_rounds.proofs.ListsGrown.{flat_maps}
use Rattle.driver.proofs.Maps.{map_map, maps_of_maps}
use Rattle.driver.proofs.Members.{both_all, flat_all, map_all, previous_all, weaker_all}
use Rattle.driver.specs.Alike.{AreAlikeIn, HasAlike, document_with, request_with, requests_named}
use Rattle.driver.proofs.MapsTurned.{after, both, map_same, maps_same, maps_turned, previous_map}

-- what is named always, at its index
nine_named : length always_named.variables ≡ 9
nine_named = refl

-- the dates that make year suffixes possible
suffix_dates_alike : (x : StyleContext) (a b : Answers) → AreAlike (style_named x.style) a b → has_suffix_date a ≡ has_suffix_date b
suffix_dates_alike x a b h =
    let always = first_alike always_named (joined_named _ (named_in_bibliography x.style x.style.bibliography)) a b (layouts_alike x.style a b h) in
    let issued = always.variables (variables.Date date.Issued) (2, omega (arith, nine_named), refl) in
    let accessed = always.variables (variables.Date date.Accessed) (3, omega (arith, nine_named), refl) in
    let available = always.variables (variables.Date date.AvailableDate) (4, omega (arith, nine_named), refl) in
    let event = always.variables (variables.Date date.EventDate) (5, omega (arith, nine_named), refl) in
    let submitted = always.variables (variables.Date date.Submitted) (6, omega (arith, nine_named), refl) in
    let original = always.variables (variables.Date date.OriginalDate) (7, omega (arith, nine_named), refl) in
    λ k. is_some (issued k) || (is_some (accessed k) || (is_some (available k) || (is_some (event k) || (is_some (submitted k) || (is_some (original k) || false)))))

-- Cites whose entries answer so, where they answered alike before.
module _ {P : Type 0} (answers : ℕ → Answers) where
  -- the entry of a cite answers so, as far as its style names it
  abbrev pub IsAlike : Cite P → Type 0
  IsAlike c = AreAlike (style_named c.context.style) c.item.entry.answers (answers (entry_of c))

  -- the first print of a cite of such an entry
  abbrev pub first_with : FirstPrint P → FirstPrint P
  first_with b = record b { numbered = numbered_with answers b.numbered }

  -- a cite in its final order, of such an entry
  abbrev pub final_with : Final P → Final P
  final_with f = record f { arranged = arranged_as first_with f.arranged }

  printed_alike : (n : Numbered P) (state : DisambiguateState) → IsAlike n.cite → printed_by (numbered_with answers n) state ≡ printed_by n state
  printed_alike n state h = sym (cites_alike n.cite.context n.cite.item.entry.answers (answers (entry_of n.cite)) (properties_of n state) None (purpose_at_first n.cite.item.purpose) None h)

  first_alike_one : (n : Numbered P) → IsAlike n.cite → first_print (numbered_with answers n) ≡ first_with (first_print n)
  first_alike_one n h = λ k. record { numbered = numbered_with answers n; rendered = printed_alike n undisambiguated h k }

  -- a first print of a cite whose entry answers alike
  abbrev pub OfAlike : FirstPrint P → Type 0
  OfAlike b = IsAlike b.numbered.cite

  candidate_alike : (b : FirstPrint P) → OfAlike b → candidate (first_with b) ≡ candidate b
  candidate_alike b h =
      let printed : (λ (state : DisambiguateState). (printed_by (numbered_with answers b.numbered) state).tree) ≡ (λ state. (printed_by b.numbered state).tree) = fun_ext (λ state. ap (λ (r : purposes.Rendered). r.tree) (printed_alike b.numbered state h)) in
      let dates = sym (suffix_dates_alike b.numbered.cite.context b.numbered.cite.item.entry.answers (answers (entry_of b.numbered.cite)) h) in
      λ k. record {
        entry = entry_of b.numbered.cite;
        number = b.numbered.number;
        has_date = dates k;
        style = b.numbered.cite.context.style.citation;
        repeats = repeats_by b.numbered.cite.context.style.citation b.numbered.ibid;
        printed = printed k;
        met_disambiguate = b.rendered.met_disambiguate;
        names = option_map (raised_to b.numbered.first_names) b.rendered.names;
      }

  gathered_alike : (t : Disambiguation) (b : FirstPrint P) → OfAlike b → gathered_by t (first_with b) ≡ gathered_as first_with (gathered_by t b)
  gathered_alike t b h =
      let tree : (printed_by (numbered_with answers b.numbered) (state_for t b)).tree ≡ (printed_by b.numbered (state_for t b)).tree = ap (λ (r : purposes.Rendered). r.tree) (printed_alike b.numbered (state_for t b) h) in
      λ k. record {
        cite = first_with b;
        names = names_element (tree k);
        number = option_map (λ e. b.numbered.number) (element_with metas.CitationNumber (tree k));
        is_shown = (gathered_by t b).is_shown;
        has_locator = (gathered_by t b).has_locator;
        suffix = (gathered_by t b).suffix;
      }

  run_alike : (t : Disambiguation) (p : Request P × List (FirstPrint P)) → AllByRecursion OfAlike p.1 → arranged_for t (both (request_with answers) (map first_with) p) ≡ map (arranged_as first_with) (arranged_for t p)
  run_alike t (r, bs) h =
      let c = r.context.style.citation in
      let gathered : map (gathered_by t) (map first_with bs) ≡ map (gathered_as first_with) (map (gathered_by t) bs) =
      map_map (gathered_by t) first_with bs
      ∙ map_same (λ b. gathered_by t (first_with b)) (λ b. gathered_as first_with (gathered_by t b)) bs (weaker_all OfAlike (λ b. gathered_by t (first_with b) ≡ gathered_as first_with (gathered_by t b)) (gathered_alike t) bs h)
      ∙ sym (map_map (gathered_as first_with) (gathered_by t) bs) in
      (λ k. arranged c (purpose_same answers r k) (gathered k)) ∙ arranged_renamed first_with c (has_purpose r) (map (gathered_by t) bs)

  runs_alike : (t : Disambiguation) (rs : List (Request P)) (bss : List (List (FirstPrint P))) → AllByRecursion (AllByRecursion OfAlike) bss
      → map (arranged_for t) (zip (map (request_with answers) rs) (map (map first_with) bss)) ≡ map (map (arranged_as first_with)) (map (arranged_for t) (zip rs bss))
  runs_alike t [] bss h = refl
  runs_alike t (r ∷ rs) [] h = refl
  runs_alike t (r ∷ rs) (bs ∷ bss) h = λ k. run_alike t (r, bs) h.0 k ∷ runs_alike t rs bss h.1 k

  final_alike : (same : P → P → Bool) (t : Disambiguation) (p : Option (Arranged (FirstPrint P)) × Arranged (FirstPrint P)) → final same t (after (arranged_as first_with) p) ≡ final_with (final same t p)
  final_alike same t (None, a) = refl
  final_alike same t (Some last, a) = refl

  -- cites are in the same order at last
  finals_alike : (same : P → P → Bool) (t : Disambiguation) (rs : List (Request P)) (bss : List (List (FirstPrint P))) → AllByRecursion (AllByRecursion OfAlike) bss
      → map (map (final same t)) (with_previous None (map (arranged_for t) (zip (map (request_with answers) rs) (map (map first_with) bss)))) ≡ map (map final_with) (map (map (final same t)) (with_previous None (map (arranged_for t) (zip rs bss))))
  finals_alike same t rs bss h =
      ap (λ xss. map (map (final same t)) (with_previous None xss)) (runs_alike t rs bss h)
      ∙ ap (map (map (final same t))) (previous_map (arranged_as first_with) None (map (arranged_for t) (zip rs bss)))
      ∙ maps_turned (final same t) (after (arranged_as first_with)) final_with (final same t) (final_alike same t) (with_previous None (map (arranged_for t) (zip rs bss)))

  -- a cite in its final order whose entry answers alike
  abbrev pub OfFinal : Final P → Type 0
  OfFinal f = IsAlike (cite_of f)

  last_alike : (f : Final P) → OfFinal f → printed_at_last (final_with f) ≡ printed_at_last f
  last_alike f h = ap (λ (r : purposes.Rendered). r.tree) (sym (cites_alike (cite_of f).context (cite_of f).item.entry.answers (answers (entry_of (cite_of f))) (located f) None (cite_of f).item.purpose f.arranged.verdict h))

  shown_alike : (f : Final P) → OfFinal f → shown (final_with f) ≡ shown f
  shown_alike f h = λ k. if f.arranged.is_shown then record { delimiter = f.arranged.delimiter; index = (cite_of f).index; tree = last_alike f h k } ∷ [] else []

  all_shown : (fs : List (Final P)) → AllByRecursion OfFinal fs → flat_map shown (map final_with fs) ≡ flat_map shown fs
  all_shown [] h = refl
  all_shown (f ∷ fs) h = λ k. shown_alike f h.0 k ++ all_shown fs h.1 k

  citation_alike : (r : Request P) (fs : List (Final P)) → AllByRecursion OfFinal fs → citation_in (request_with answers r, map final_with fs) ≡ citation_in (r, fs)
  citation_alike r fs h = λ k. record { note_number = r.note_number; tree = citation_of (joining_quotes r.context) r.context.style.citation.layout (purpose_same answers r k) (all_shown fs h k) }

  citations_alike : (rs : List (Request P)) (fss : List (List (Final P))) → AllByRecursion (AllByRecursion OfFinal) fss → map citation_in (zip (map (request_with answers) rs) (map (map final_with) fss)) ≡ map citation_in (zip rs fss)
  citations_alike [] fss h = refl
  citations_alike (r ∷ rs) [] h = refl
  citations_alike (r ∷ rs) (fs ∷ fss) h = λ k. citation_alike r fs h.0 k ∷ citations_alike rs fss h.1 k

  -- the entry of a cite answers so, as far as the style of the bibliography names it
  abbrev pub IsListed : StyleContext → Cite P → Type 0
  IsListed x c = AreAlike (style_named x.style) c.item.entry.answers (answers (entry_of c))

  -- the same in the final order
  abbrev pub IsListedAlike : StyleContext → Final P → Type 0
  IsListedAlike x f = IsListed x (cite_of f)

  module _ (d : Document P) where
    item_alike : (f : Final P) → IsListedAlike d.bibliography_context f → item_of_cite (document_with answers d) (final_with f) ≡ item_of_cite d f
    item_alike f h =
        ap (option_map printed_item) (sym (items_alike d.bibliography_context (cite_of f).item.entry.answers (answers (entry_of (cite_of f))) (item_properties f) None h))

    found_alike : (b : Bool) (f : Final P) (one other : Option (Final P)) → IsListedAlike d.bibliography_context f → option_and_then (item_of_cite (document_with answers d)) one ≡ option_and_then (item_of_cite d) other
        → option_and_then (item_of_cite (document_with answers d)) (cond b (Some (final_with f)) one) ≡ option_and_then (item_of_cite d) (cond b (Some f) other)
    found_alike true f one other h e = item_alike f h
    found_alike false f one other h e = e

    entry_alike : (fs : List (Final P)) (entry_index : ℕ) → AllByRecursion (IsListedAlike d.bibliography_context) fs → item_of_entry (document_with answers d) (map final_with fs) entry_index ≡ item_of_entry d fs entry_index
    entry_alike [] entry_index h = refl
    entry_alike (f ∷ fs) entry_index h = found_alike (is_final_of entry_index f) f (find (is_final_of entry_index) (map final_with fs)) (find (is_final_of entry_index) fs) h.0 (entry_alike fs entry_index h.1)

    -- the bibliography is the same
    trees_alike : (same : P → P → Bool) (fs : List (Final P)) → AllByRecursion (IsListedAlike d.bibliography_context) fs
        → filter_map (item_of_entry (document_with answers d) (map final_with fs)) (order_in (document_with answers d)) ≡ filter_map (item_of_entry d fs) (order_in d)
    trees_alike same fs h = λ k. filter_map (fun_ext (λ entry_index. entry_alike fs entry_index h) k) (order_same answers same d k)

    rendered_alike : (same : P → P → Bool) (fss : List (List (Final P))) → AllByRecursion (AllByRecursion OfFinal) fss → AllByRecursion (IsListedAlike d.bibliography_context) (flattened fss) → rendered_from (document_with answers d) (map (map final_with) fss) ≡ rendered_from d fss
    rendered_alike same fss h g =
        let trees = ap (λ fs. filter_map (item_of_entry (document_with answers d) fs) (order_in (document_with answers d))) (flat_maps final_with fss) ∙ trees_alike same (flattened fss) g in
        λ k. record {
          bibliography = option_map (λ (b : Bibliography). record { hanging_indent = b.hanging_indent; second_field_align = b.second_field_align; line_spacing = b.line_spacing; entry_spacing = b.entry_spacing; items = items_of b (trees k) }) d.bibliography_context.style.bibliography;
          citations = citations_alike d.requests fss h k;
        }

    module _ (same : P → P → Bool) (h : AllByRecursion (AllByRecursion IsAlike) (cites_of d.requests)) (g : AllByRecursion (AllByRecursion (IsListed d.bibliography_context)) (cites_of d.requests)) where
      -- what is known of a cite and its first print
      of_first : (Q : Cite P → Type 0) → AllByRecursion (AllByRecursion Q) (cites_of d.requests) → AllByRecursion (AllByRecursion (λ (b : FirstPrint P). Q b.numbered.cite)) (first_prints_in same d)
      of_first Q k = prints_all same d Q (λ (b : FirstPrint P). Q b.numbered.cite) at k
        where
          at : (p : Option (Cite P) × Cite P) → Q p.1 → Q (first_print (named_after same d p)).numbered.cite
          at (last, c) l = l

      -- and of it in the final order
      of_finals : (Q : Cite P → Type 0) (t : Disambiguation) → AllByRecursion (AllByRecursion (λ (b : FirstPrint P). Q b.numbered.cite)) (first_prints_in same d) → AllByRecursion (AllByRecursion (λ (f : Final P). Q (cite_of f))) (finals_in same d (first_prints_in same d) t)
      of_finals Q t k = finals_all same t (λ (b : FirstPrint P). Q b.numbered.cite) (λ (f : Final P). Q (cite_of f)) at d.requests (first_prints_in same d) k
        where
          at : (p : Option (Arranged (FirstPrint P)) × Arranged (FirstPrint P)) → Q (first_print_of p.1).numbered.cite → Q (cite_of (final same t p))
          at (last, a) l = l

      numbered_known : AllByRecursion (AllByRecursion (λ (n : Numbered P). first_print (numbered_with answers n) ≡ first_with (first_print n))) (map (map (named_after same d)) (with_previous None (cites_of d.requests)))
      numbered_known =
          map_all (AllByRecursion (λ (n : Numbered P). first_print (numbered_with answers n) ≡ first_with (first_print n))) (map (named_after same d)) (with_previous None (cites_of d.requests))
          (weaker_all (AllByRecursion (λ (p : Option (Cite P) × Cite P). IsAlike p.1)) (λ ps. AllByRecursion (λ (n : Numbered P). first_print (numbered_with answers n) ≡ first_with (first_print n)) (map (named_after same d) ps))
          (λ ps l. map_all (λ (n : Numbered P). first_print (numbered_with answers n) ≡ first_with (first_print n)) (named_after same d) ps
          (weaker_all (λ (p : Option (Cite P) × Cite P). IsAlike p.1) (λ p. first_print (numbered_with answers (named_after same d p)) ≡ first_with (first_print (named_after same d p))) at ps l)) (with_previous None (cites_of d.requests)) (previous_all IsAlike None (cites_of d.requests) h))
        where
          at : (p : Option (Cite P) × Cite P) → IsAlike p.1 → first_print (numbered_with answers (named_after same d p)) ≡ first_with (first_print (named_after same d p))
          at (last, c) l = first_alike_one (named_after same d (last, c)) l

      -- what a cite prints undisambiguated is the same
      undisambiguated_alike : (n : Numbered P) → first_print (numbered_with answers n) ≡ first_with (first_print n) → OfAlike (first_print n) → printed_undisambiguated (numbered_with answers n) ≡ printed_undisambiguated n
      undisambiguated_alike n e l =
          let known : candidate (first_print (numbered_with answers n)) ≡ candidate (first_print n) = ap candidate e ∙ candidate_alike (first_print n) l in
          let tree : (printed_by (numbered_with answers n) undisambiguated).tree ≡ (printed_by n undisambiguated).tree = ap (λ (b : FirstPrint P). b.rendered.tree) e in
          λ k. printed_as (known k) undisambiguated (tree k)

      named_one : (ss : Option States) (n : Numbered P) → with_first_names ss (numbered_with answers n) ≡ numbered_with answers (with_first_names ss n)
      named_one None n = refl
      named_one (Some ss) n = refl

      -- a cite prints the same undisambiguated with first names by states
      abbrev IsNamedAlike : Option States → Numbered P → Type 0
      IsNamedAlike ss n = printed_undisambiguated (with_first_names ss (numbered_with answers n)) ≡ printed_undisambiguated (with_first_names ss n)

      -- so do all cites
      prints_named : (ss : Option States) → printed_with ss (flattened (numbered_in same (document_with answers d))) ≡ printed_with ss (flattened (numbered_in same d))
      prints_named ss =
          let nss = numbered_in same d in
          ap (λ mss. printed_with ss (flattened mss)) (numbered_same answers same d)
          ∙ ap (printed_with ss) (flat_maps (numbered_with answers) nss)
          ∙ ap (map printed_undisambiguated) (map_map (with_first_names ss) (numbered_with answers) (flattened nss))
          ∙ map_map printed_undisambiguated (λ n. with_first_names ss (numbered_with answers n)) (flattened nss)
          ∙ map_same (λ n. printed_undisambiguated (with_first_names ss (numbered_with answers n))) (λ n. printed_undisambiguated (with_first_names ss n)) (flattened nss) (flat_all (IsNamedAlike ss) (λ ns. ns) nss all_same)
          ∙ sym (map_map printed_undisambiguated (with_first_names ss) (flattened nss))
        where
          at : (p : Option (Cite P) × Cite P) → IsAlike p.1 → IsNamedAlike ss (numbered_after same d p)
          at (last, c) l =
              let n = numbered_after same d (last, c) in
              ap printed_undisambiguated (named_one ss n) ∙ undisambiguated_alike (with_first_names ss n) (first_alike_one (with_first_names ss n) l) l

          all_same : AllByRecursion (AllByRecursion (IsNamedAlike ss)) (numbered_in same d)
          all_same =
              map_all (AllByRecursion (IsNamedAlike ss)) (map (numbered_after same d)) (with_previous None (cites_of d.requests))
              (weaker_all (AllByRecursion (λ (p : Option (Cite P) × Cite P). IsAlike p.1)) (λ ps. AllByRecursion (IsNamedAlike ss) (map (numbered_after same d) ps))
              (λ ps l. map_all (IsNamedAlike ss) (numbered_after same d) ps (weaker_all (λ (p : Option (Cite P) × Cite P). IsAlike p.1) (λ p. IsNamedAlike ss (numbered_after same d p)) at ps l)) (with_previous None (cites_of d.requests)) (previous_all IsAlike None (cites_of d.requests) h))

      -- so are the states by first names
      states_first_alike : first_states_in same (document_with answers d) ≡ first_states_in same d
      states_first_alike =
          let nss = numbered_in same d in
          let numbered : map printed_undisambiguated (flattened (numbered_in same (document_with answers d))) ≡ map printed_undisambiguated (flattened nss) =
          ap (λ mss. map printed_undisambiguated (flattened mss)) (numbered_same answers same d)
          ∙ ap (map printed_undisambiguated) (flat_maps (numbered_with answers) nss)
          ∙ map_map printed_undisambiguated (numbered_with answers) (flattened nss)
          ∙ map_same (λ n. printed_undisambiguated (numbered_with answers n)) printed_undisambiguated (flattened nss)
          (flat_all (λ (n : Numbered P). printed_undisambiguated (numbered_with answers n) ≡ printed_undisambiguated n) (λ ns. ns) nss undisambiguated_known) in
          let named : ruled_states (first_naming (document_with answers d).requests).0 (length (cited (document_with answers d).requests)) (flattened (numbered_in same (document_with answers d))) ≡ ruled_states (first_naming d.requests).0 (length (cited d.requests)) (flattened nss) =
          λ k. option_map (λ r. states_after (first_names r (numbered k)) (undisambiguated_states (length (cited_same answers d.requests k)))) (naming_same answers d.requests k).0 in
          let prints = ap (λ ss. printed_with ss (flattened (numbered_in same (document_with answers d)))) named ∙ prints_named (ruled_states (first_naming d.requests).0 (length (cited d.requests)) (flattened nss)) in
          λ k. kept_where (naming_same answers d.requests k).1 (length (cited_same answers d.requests k)) (named k) (prints k)
        where
          at : (p : Option (Cite P) × Cite P) → IsAlike p.1 → printed_undisambiguated (numbered_with answers (numbered_after same d p)) ≡ printed_undisambiguated (numbered_after same d p)
          at (last, c) l = undisambiguated_alike (numbered_after same d (last, c)) (first_alike_one (numbered_after same d (last, c)) l) l

          undisambiguated_known : AllByRecursion (AllByRecursion (λ (n : Numbered P). printed_undisambiguated (numbered_with answers n) ≡ printed_undisambiguated n)) (numbered_in same d)
          undisambiguated_known =
              map_all (AllByRecursion (λ (n : Numbered P). printed_undisambiguated (numbered_with answers n) ≡ printed_undisambiguated n)) (map (numbered_after same d)) (with_previous None (cites_of d.requests))
              (weaker_all (AllByRecursion (λ (p : Option (Cite P) × Cite P). IsAlike p.1)) (λ ps. AllByRecursion (λ (n : Numbered P). printed_undisambiguated (numbered_with answers n) ≡ printed_undisambiguated n) (map (numbered_after same d) ps))
              (λ ps l. map_all (λ (n : Numbered P). printed_undisambiguated (numbered_with answers n) ≡ printed_undisambiguated n) (numbered_after same d) ps
              (weaker_all (λ (p : Option (Cite P) × Cite P). IsAlike p.1) (λ p. printed_undisambiguated (numbered_with answers (numbered_after same d p)) ≡ printed_undisambiguated (numbered_after same d p)) at ps l)) (with_previous None (cites_of d.requests)) (previous_all IsAlike None (cites_of d.requests) h))

      -- cites have the same first names
      named_same : map (map (named_after same (document_with answers d))) (with_previous None (cites_of (document_with answers d).requests)) ≡ map (map (numbered_with answers)) (map (map (named_after same d)) (with_previous None (cites_of d.requests)))
      named_same =
          let pairs = with_previous None (cites_of d.requests) in
          let others = with_previous None (cites_of (document_with answers d).requests) in
          let ss = first_states_in same d in
          maps_of_maps (with_first_names (first_states_in same (document_with answers d))) (numbered_after same (document_with answers d)) others
          ∙ (λ k. map (map (with_first_names (states_first_alike k))) (numbered_same answers same d k))
          ∙ sym (maps_of_maps (with_first_names ss) (numbered_with answers) (map (map (numbered_after same d)) pairs))
          ∙ ap (λ (f : Numbered P → Numbered P). map (map f) (map (map (numbered_after same d)) pairs)) (fun_ext (named_one ss))
          ∙ maps_of_maps (numbered_with answers) (with_first_names ss) (map (map (numbered_after same d)) pairs)
          ∙ ap (map (map (numbered_with answers))) (sym (maps_of_maps (with_first_names ss) (numbered_after same d) pairs))

      firsts_alike : first_prints_in same (document_with answers d) ≡ map (map first_with) (first_prints_in same d)
      firsts_alike =
          let pairs = with_previous None (cites_of d.requests) in
          let others = with_previous None (cites_of (document_with answers d).requests) in
          maps_of_maps first_print (named_after same (document_with answers d)) others
          ∙ ap (map (map first_print)) named_same
          ∙ sym (maps_of_maps first_print (numbered_with answers) (map (map (named_after same d)) pairs))
          ∙ maps_same (λ n. first_print (numbered_with answers n)) (λ n. first_with (first_print n)) (map (map (named_after same d)) pairs) numbered_known
          ∙ maps_of_maps first_with first_print (map (map (named_after same d)) pairs)
          ∙ ap (map (map first_with)) (sym (maps_of_maps first_print (named_after same d) pairs))

      candidates_alike : map candidate (flattened (first_prints_in same (document_with answers d))) ≡ map candidate (flattened (first_prints_in same d))
      candidates_alike =
          let bss = first_prints_in same d in
          ap (λ css. map candidate (flattened css)) firsts_alike
          ∙ ap (map candidate) (flat_maps first_with bss)
          ∙ map_map candidate first_with (flattened bss)
          ∙ map_same (λ b. candidate (first_with b)) candidate (flattened bss) (weaker_all OfAlike (λ b. candidate (first_with b) ≡ candidate b) candidate_alike (flattened bss) (flat_all OfAlike (λ bs. bs) bss (of_first IsAlike h)))

      states_alike : disambiguated_in (document_with answers d) (first_prints_in same (document_with answers d)) ≡ disambiguated_in d (first_prints_in same d)
      states_alike = λ k. disambiguated (adds_same answers d.requests k) (length (cited_same answers d.requests k)) (candidates_alike k)

      -- what such a document gives
      pub given_alike : finish same (document_with answers d) ≡ finish same d
      given_alike =
          let bss = first_prints_in same d in
          let t = disambiguated_in d bss in
          let finals = finals_in same d bss t in
          let listed = flat_all (IsListedAlike d.bibliography_context) (λ fs. fs) finals (of_finals (IsListed d.bibliography_context) t (of_first (IsListed d.bibliography_context) g)) in
          let rendered : rendered_from (document_with answers d) (finals_in same (document_with answers d) (first_prints_in same (document_with answers d)) t) ≡ rendered_from d finals =
          ap (λ css. rendered_from (document_with answers d) (finals_in same (document_with answers d) css t)) firsts_alike
          ∙ ap (rendered_from (document_with answers d)) (finals_alike same t d.requests bss (of_first IsAlike h))
          ∙ rendered_alike same finals (of_finals IsAlike t (of_first IsAlike h)) listed in
          (λ k. if numbers_overflow d.offset (cited_same answers d.requests k) || suffixes_overflow (states_alike k).given then Err overflow else Ok (rendered_from (document_with answers d) (finals_in same (document_with answers d) (first_prints_in same (document_with answers d)) (states_alike k))))
          ∙ ap (λ r. if numbers_overflow d.offset (cited d.requests) || suffixes_overflow t.given then Err overflow else Ok r) rendered

module _ {P : Type 0} (answers : ℕ → Answers) where
  run_own : (earlier : List (Request P)) (r : Request P) (n : ℕ) (is : List (Item P)) → AllByRecursion (HasAlike (style_named r.context.style) answers) is → AllByRecursion (IsAlike answers) (map (cite_at earlier r) (enumerate_from n is))
  run_own earlier r n [] h = tt
  run_own earlier r n (i ∷ is) h = (h.0, run_own earlier r (n + 1) is h.1)

  -- the entries of cites answer alike in what their styles name
  all_own : (named : Named) (earlier rs : List (Request P)) → AllByRecursion (HasAlike (requests_named named rs) answers) (flat_map (λ (r : Request P). r.items) rs) → AllByRecursion (AllByRecursion (IsAlike answers)) (cites_after earlier rs)
  all_own named earlier [] h = tt
  all_own named earlier (r ∷ rs) h =
      let two = both_all (HasAlike (requests_named named (r ∷ rs)) answers) r.items (flat_map (λ (q : Request P). q.items) rs) h in
      let here = weaker_all (HasAlike (requests_named named (r ∷ rs)) answers) (HasAlike (style_named r.context.style) answers)
      (λ i k. first_named (style_named r.context.style) (requests_named named rs) i.entry.answers (answers i.entry.index) k) r.items two.0 in
      let others = weaker_all (HasAlike (requests_named named (r ∷ rs)) answers) (HasAlike (requests_named named rs) answers)
      (λ i k. others_named (style_named r.context.style) (requests_named named rs) i.entry.answers (answers i.entry.index) k) (flat_map (λ (q : Request P). q.items) rs) two.1 in
      (run_own earlier r 0 r.items here, all_own named (earlier ++ r ∷ []) rs others)

  run_listed : (x : StyleContext) (earlier : List (Request P)) (r : Request P) (n : ℕ) (is : List (Item P)) → AllByRecursion (HasAlike (style_named x.style) answers) is → AllByRecursion (IsListed answers x) (map (cite_at earlier r) (enumerate_from n is))
  run_listed x earlier r n [] h = tt
  run_listed x earlier r n (i ∷ is) h = (h.0, run_listed x earlier r (n + 1) is h.1)

  -- and in what the style of a bibliography names
  all_listed : (x : StyleContext) (earlier rs : List (Request P)) → AllByRecursion (HasAlike (style_named x.style) answers) (flat_map (λ (r : Request P). r.items) rs) → AllByRecursion (AllByRecursion (IsListed answers x)) (cites_after earlier rs)
  all_listed x earlier [] h = tt
  all_listed x earlier (r ∷ rs) h =
      let two = both_all (HasAlike (style_named x.style) answers) r.items (flat_map (λ (q : Request P). q.items) rs) h in
      (run_listed x earlier r 0 r.items two.0, all_listed x (earlier ++ r ∷ []) rs two.1)

  last_style : (x : StyleContext) (rs : List (Request P)) (i : Item P) → HasAlike (requests_named (style_named x.style) rs) answers i → HasAlike (style_named x.style) answers i
  last_style x [] i h = h
  last_style x (r ∷ rs) i h = last_style x rs i (others_named (style_named r.context.style) (requests_named (style_named x.style) rs) i.entry.answers (answers i.entry.index) h)

  -- so other answers that are alike in what styles name change nothing
  pub alike_answers : (same : P → P → Bool) (d : Document P) → AreAlikeIn d answers → finish same (document_with answers d) ≡ finish same d
  alike_answers same d h =
      let x = d.bibliography_context in
      let items = flat_map (λ (r : Request P). r.items) d.requests in
      let all = recursion_from_All (HasAlike (requests_named (style_named x.style) d.requests) answers) items h in
      let listed = weaker_all (HasAlike (requests_named (style_named x.style) d.requests) answers) (HasAlike (style_named x.style) answers) (last_style x d.requests) items all in
      given_alike answers d same (all_own (style_named x.style) [] d.requests all) (all_listed x [] d.requests listed)
