-- What is known of a document after each stage of the code.
use Rattle.std.proofs.Common.{◌≡◌, ℕ, ◌<◌, All, List, length, map, true, false, sym, ap, subst₂, ◌∙◌, refl, Bor, Option, Ok, Vec}
use Rattle.std.specs.Prelude.{Bool}
use Rattle.std.specs.Cmp.{IsEquivalence}
use Rattle.std.specs.Global.{Global}
use Rattle.std.specs.Option.{option_map}
use Rattle.std.proofs.lemmas.List.{length-map}
use Rattle.laws.specs.Results.{EndsWith}
use Rattle.rendering_context.specs.Views.{state_view}
use Rattle.rendering_entries.specs.Answers.{Answers}
use Rattle.driver_requests.specs.CitedEntries.{index_among}
use Rattle.driver_requests.specs.Cites.{Numbered}
use Rattle.driver_requests.specs.Errors.{Overflow, overflow}
use Rattle.driver_requests.specs.Order.{cited, numbers_overflow}
use Rattle.driver_requests.specs.Views.{entries_in, request_view}
use Rattle.driver_requests.specs.declared.bibliography_request.BibliographyRequest.{BibliographyRequest}
use Rattle.driver_requests.specs.declared.request.CitationRequest.{CitationRequest}
use Rattle.driver_names.specs.Prints.{Printed}
use Rattle.rendering_context.specs.declared.cite.DisambiguateState.{DisambiguateState}
use Rattle.driver_disambiguation.specs.States.{States, suffixes_overflow}
use Rattle.driver_disambiguation.specs.Rounds.{Disambiguation, disambiguated}
use Rattle.driver_rounds.specs.Documents.{Document, order_in}
use Rattle.driver.specs.FinalPrints.{finals_from, firsts}
use Rattle.driver.specs.Finish.{finish, keys_in, rendered_from}
use Rattle.driver_rounds.specs.OrderAndNumbers.{KnownCites, known_in, known_of, known_view}
use Rattle.driver.specs.Listing.{keys_first, rendered_of}
use Rattle.driver_rounds.specs.Rounding.{AreWithin, round_states_view, unless_overflow}
use Rattle.driver_rounds.specs.FirstPrints.{adds_names, candidate, disambiguated_in, first_print, first_prints_in, first_naming, first_states, flattened, named_in, numbered_in}
use Rattle.driver_rounds.specs.Naming.{seen, seen_under, states_by}
use Rattle.driver_rounds.proofs.NamingSteps.{lent_states, runs_named}
use Rattle.driver.specs.Stages.{finals_in}
use Rattle.driver_rounds.specs.Views.{document_view, printed_by_states, all_numbered_cites_view}
use Rattle.driver_rounds.specs.declared.cite.NumberedCite.{NumberedCite}
use Rattle.driver_rounds.specs.declared.order_and_numbers.OrderAndNumbers.{OrderAndNumbers}
use Rattle.driver_rounds.specs.declared.rounds.RoundStates.{RoundStates}
use Rattle.driver.proofs.FinishStages.{finish_is, firsts_are, known_parts, named_are, suffixes_end, states_are, states_long}
use Rattle.driver.proofs.KeysListed.{keys_are}
use Rattle.driver_rounds.proofs.KnownIndices.{passed}

module _ {T P : Type 0} (eq : T → T → Bool) (answers : T → Answers) (same : P → P → Bool) (rs : List (CitationRequest T P)) (offset : ℕ) (request : BibliographyRequest T) (k : OrderAndNumbers)
    (is_known : known_in same (document_view eq answers rs offset request) ≡ Ok (known_view answers rs k)) where
  abbrev document : Document P
  document = document_view eq answers rs offset request

  parts : (numbers_overflow offset (cited document.requests) ≡ false) × (known_of same document ≡ known_view answers rs k)
  parts = known_parts same document (known_view answers rs k) is_known

  -- so many entries are cited
  pub many_cited : length (cited document.requests) ≡ k.count
  many_cited = ap (λ (q : KnownCites P). q.count) parts.1

  -- the order is known
  pub order_known : (order : List ℕ) → order ≡ k.order.items → order_in document ≡ order
  order_known order e = ap (λ (q : KnownCites P). q.order) parts.1 ∙ sym e

  -- cites have their numbers
  pub cites_known : (vs : List (Vec NumberedCite Global)) → vs ≡ k.runs.items → numbered_in same document ≡ all_numbered_cites_view answers rs vs
  cites_known vs e = ap (λ (q : KnownCites P). q.cites) parts.1 ∙ ap (λ (ws : List (Vec NumberedCite Global)). all_numbered_cites_view answers rs ws) (sym e)

  -- and their first names
  pub named_known : (ns vs : List (Vec NumberedCite Global)) (lent : Option (Bor (List DisambiguateState))) (ss : Option States) → ns ≡ k.runs.items → states_by lent ≡ ss
      → ss ≡ first_states (first_naming (map (request_view {P = P} (λ e. 0) answers) rs)) k.count (flattened (all_numbered_cites_view answers rs ns))
      → map (λ (v : Vec NumberedCite Global). map seen v.items) vs ≡ map (λ (n : Vec NumberedCite Global). map (seen_under (states_by lent)) n.items) ns
      → named_in same document ≡ all_numbered_cites_view answers rs vs
  named_known ns vs lent ss e lends states made =
      named_are same answers (index_among eq (entries_in rs)) rs document k.count (all_numbered_cites_view answers rs ns) (all_numbered_cites_view answers rs vs) ss refl many_cited (cites_known ns e) states
      (runs_named answers ss rs ns vs (made ∙ ap (λ (o : Option States). map (λ (n : Vec NumberedCite Global). map (seen_under o) n.items) ns) lends))

  -- cites that are named by the states that the code has made
  pub named_given : (ns ms vs ws : List (Vec NumberedCite Global)) (lent : Option (Bor (List DisambiguateState))) (made : Option (Vec DisambiguateState Global)) → ns ≡ k.runs.items → ms ≡ k.runs.items → ws ≡ vs
      → option_map (λ (b : Bor (List DisambiguateState)). b.now) lent ≡ option_map (λ (v : Vec DisambiguateState Global). v.items) made
      → option_map (λ (v : Vec DisambiguateState Global). map state_view v.items) made ≡ first_states (first_naming (map (request_view {P = P} (λ e. 0) answers) rs)) k.count (flattened (all_numbered_cites_view answers rs ns))
      → map (λ (v : Vec NumberedCite Global). map seen v.items) vs ≡ map (λ (m : Vec NumberedCite Global). map (seen_under (states_by lent)) m.items) ms
      → named_in same document ≡ all_numbered_cites_view answers rs ws
  named_given ns ms vs ws lent made is_ns is_ms is_ws lends states named =
      named_known ms vs lent (option_map (λ (v : Vec DisambiguateState Global). map state_view v.items) made) is_ms (lent_states lent made lends)
      (states ∙ ap (λ (us : List (Vec NumberedCite Global)). first_states (first_naming (map (request_view {P = P} (λ e. 0) answers) rs)) k.count (flattened (all_numbered_cites_view answers rs us))) (is_ns ∙ sym is_ms)) named
      ∙ ap (λ (us : List (Vec NumberedCite Global)). all_numbered_cites_view answers rs us) (sym is_ws)

  module _ (vs : List (Vec NumberedCite Global)) (named : named_in same document ≡ all_numbered_cites_view answers rs vs) where
    -- the states of cites that have these numbers
    abbrev pub states_known : Disambiguation
    states_known = disambiguated (adds_names (map (request_view {P = P} (λ e. 0) answers) rs)) k.count (map (λ (n : Numbered P). candidate (first_print n)) (flattened (all_numbered_cites_view answers rs vs)))

    are_states : states_known ≡ disambiguated_in document (first_prints_in same document)
    are_states = states_are same answers (index_among eq (entries_in rs)) rs document k.count (all_numbered_cites_view answers rs vs) refl many_cited named

    -- where a year suffix is after the last, nothing is given
    pub suffixes_fail : (refusal : Option Overflow) → EndsWith refusal (unless_overflow (flattened (all_numbered_cites_view answers rs vs)) states_known) → EndsWith refusal (finish same document)
    suffixes_fail refusal h =
        let t = disambiguated_in document (first_prints_in same document) in
        suffixes_end refusal (numbers_overflow offset (cited document.requests)) (suffixes_overflow states_known.given) (suffixes_overflow t.given) (states_known, map (printed_by_states states_known.states) (flattened (all_numbered_cites_view answers rs vs)))
        (rendered_from document (finals_in same document (first_prints_in same document) t)) (ap (λ (u : Disambiguation). suffixes_overflow u.given) are_states) h

    module _ (m : RoundStates) (is_given_to_class : unless_overflow (flattened (all_numbered_cites_view answers rs vs)) states_known ≡ Ok (round_states_view m)) where
      states_passed : (suffixes_overflow states_known.given ≡ false) × ((states_known, map (printed_by_states states_known.states) (flattened (all_numbered_cites_view answers rs vs))) ≡ round_states_view m)
      states_passed = passed (suffixes_overflow states_known.given) overflow (states_known, map (printed_by_states states_known.states) (flattened (all_numbered_cites_view answers rs vs))) (round_states_view m) is_given_to_class

      states_view : states_known ≡ (round_states_view m).0
      states_view = ap (λ (p : Disambiguation × List Printed). p.0) states_passed.1

      -- there is a state for each cited entry
      states_many : length m.states.items ≡ k.count
      states_many =
          sym (length-map m.states.items state_view)
          ∙ ap (λ (u : Disambiguation). length u.states) (sym states_view)
          ∙ states_long (adds_names (map (request_view {P = P} (λ e. 0) answers) rs)) k.count (map (λ (n : Numbered P). candidate (first_print n)) (flattened (all_numbered_cites_view answers rs vs)))

      -- the entries of cites have states
      pub cites_within : (ws : List (Vec NumberedCite Global)) → ws ≡ vs → AreWithin k.count vs → AreWithin (length m.states.items) ws
      cites_within ws e h = subst₂ (λ (n : ℕ) (us : List (Vec NumberedCite Global)). AreWithin n us) (sym states_many) (sym e) h

      -- and so have those of the order
      pub order_within : (order : List ℕ) → order ≡ k.order.items → All (λ p. p < k.count) k.order.items → All (λ p. p < length m.states.items) order
      order_within order e h = subst₂ (λ (n : ℕ) (ps : List ℕ). All (λ p. p < n) ps) (sym states_many) (sym e) h

      -- what cites print by their states
      pub prints_known : (ws : List (Vec NumberedCite Global)) → ws ≡ vs → (round_states_view m).1 ≡ map (printed_by_states (map state_view m.states.items)) (flattened (all_numbered_cites_view answers rs ws))
      prints_known ws e = sym (ap (λ (p : Disambiguation × List Printed). p.1) states_passed.1) ∙ (λ j. map (printed_by_states (states_view j).states) (flattened (all_numbered_cites_view answers rs (sym e j))))

      -- what is given
      pub finish_known : (ws : List (Vec NumberedCite Global)) (order : List ℕ) → ws ≡ vs → order ≡ k.order.items
          → finish same document ≡ Ok (rendered_of document.bibliography_context order document.requests (finals_from same (round_states_view m).0 document.requests (firsts (all_numbered_cites_view answers rs ws))))
      finish_known ws order e f =
          finish_is same document order (all_numbered_cites_view answers rs ws) (round_states_view m).0 parts.0 (order_known order f) (named ∙ ap (λ (us : List (Vec NumberedCite Global)). all_numbered_cites_view answers rs us) (sym e)) (sym are_states ∙ states_view) (ap (λ (u : Disambiguation). suffixes_overflow u.given) (sym states_view) ∙ states_passed.0)

      -- the keys of the items
      pub keys_known : (laws : IsEquivalence eq) → ((a b : T) → eq a b ≡ true → answers a ≡ answers b) → (ws : List (Vec NumberedCite Global)) (order : List ℕ) → ws ≡ vs → order ≡ k.order.items
          → option_map (λ s. keys_first document.bibliography_context (flattened (finals_from same (round_states_view m).0 document.requests (firsts (all_numbered_cites_view answers rs ws)))) order) document.bibliography_context.style.bibliography
          ≡ option_map (λ s. keys_in document) document.bibliography_context.style.bibliography
      keys_known laws alike ws order e f =
          let states : (round_states_view m).0 ≡ disambiguated_in document (first_prints_in same document) = sym states_view ∙ are_states in
          let prints : firsts (all_numbered_cites_view answers rs ws) ≡ first_prints_in same document = ap (λ (nss : List (List (Numbered P))). firsts nss) (sym (named ∙ ap (λ (us : List (Vec NumberedCite Global)). all_numbered_cites_view answers rs us) (sym e))) ∙ sym (firsts_are same document) in
          (λ j. option_map (λ s. keys_first document.bibliography_context (flattened (finals_from same (states j) document.requests (prints j))) (sym (order_known order f) j)) document.bibliography_context.style.bibliography)
          ∙ keys_are eq laws answers alike rs offset request same
