-- Cites in their final order, each after the one before it, and the first of each entry.
use Rattle.std.specs.Prelude.{◌≡◌, ◌⊎◌, ℕ, ◌+◌, Bool, not, List, [], ◌∷◌, ◌++◌, map, zip, find, filter_map, fold, is_some, slice_index_or, slice_set, Option, Some, None}
use Rattle.std.specs.List.{slice_get}
use Rattle.std.specs.Option.{option_map, option_or}
use Rattle.rendering_context.specs.Cites.{CiteProperties}
use Rattle.rendering_entries.specs.Answers.{Answers}
use Rattle.rendering_style.specs.Styles as styles
use Rattle.rendering_tree.specs.Metas as metas
use Rattle.rendering_tree.specs.Trees.{Children, element_with, names_element, nothing}
use Rattle.rendering_context.specs.Contexts.{StyleContext}
use Rattle.driver_requests.specs.Cites.{Numbered, properties_of}
use Rattle.driver_requests.specs.Requests.{Item, Request}
use Rattle.driver_requests.specs.Positions.{ibid_of, place_of, with_previous}
use Rattle.driver_requests.specs.Suffixes.{Suffix}
use Rattle.driver_requests.specs.Views.{last_view}
use Rattle.driver_requests.specs.declared.item.CitationItem.{CitationItem}
use Rattle.driver_requests.specs.declared.position.LastCite.{LastCite}
use Rattle.driver_names.specs.Prints as prints
use Rattle.driver_disambiguation.specs.States.{States, state_of}
use Rattle.driver_disambiguation.specs.Rounds.{Disambiguation}
use Rattle.driver_blocks.specs.Blocks.{Gathered}
use Rattle.driver_blocks.specs.Runs.{Arranged}
use Rattle.driver_blocks.specs.Views.{arranged_view}
use Rattle.driver_blocks.specs.declared.cite.Arranged as arranged
use Rattle.driver_citations.specs.Citations.{Shown}
use Rattle.driver.specs.Finish.{Citation, citation_in, is_final_of, item_properties, shown}
use Rattle.driver_citations.specs.Joining.{shown_view}
use Rattle.driver.specs.Renaming.{arranged_as}
use Rattle.driver.specs.RenderedViews.{rendered_citation_view}
use Rattle.driver_rounds.specs.FirstPrints.{FirstPrint, entry_of_first, first_print}
use Rattle.driver.specs.Stages.{Final, arranged_for, cite_of, counts_at_last, final, first_print_of, place_arranged}
use Rattle.driver_rounds.specs.Views.{numbered_view, properties_with}
use Rattle.driver_rounds.specs.declared.cite.NumberedCite.{NumberedCite}
use Rattle.driver_citations.specs.declared.citation.ShownCite.{ShownCite}
use Rattle.driver.specs.declared.final_prints.FinalCite.{FinalCite}
use Rattle.driver.specs.declared.final_prints.ListedCite.{ListedCite}
use Rattle.driver.specs.declared.rendered.RenderedCitation.{RenderedCitation}

-- the first prints of cites, request by request
abbrev pub firsts : {P : Type 0} → List (List (Numbered P)) → List (List (FirstPrint P))
firsts nss = map (map first_print) nss

-- the cites of requests as they are printed at last
abbrev pub finals_from : {P : Type 0} → (P → P → Bool) → Disambiguation → List (Request P) → List (List (FirstPrint P)) → List (List (Final P))
finals_from same t rs bss = map (map (final same t)) (with_previous None (map (arranged_for t) (zip rs bss)))

-- An entry as the bibliography lists it: its index among all that are cited, what it answers, and what is known of the cite by which it is
-- listed.
pub record Listed : Type 0 where
  pub index : ℕ
  pub answers : Answers
  pub properties : CiteProperties

-- the entry of a cite, listed by that
abbrev pub listed_as : {P : Type 0} → Final P → Listed
listed_as f = record { index = (cite_of f).item.entry.index; answers = (cite_of f).item.entry.answers; properties = item_properties f }

-- the entry at an index, listed by its first cite
abbrev pub first_listed : {P : Type 0} → List (Final P) → ℕ → Option Listed
first_listed fs index = option_map listed_as (find (is_final_of index) fs)

-- an entry that is listed, with these states of all entries
abbrev pub listed_view : {T : Type 0} → (T → Answers) → States → ListedCite T → Listed
listed_view answers states l = record {
  index = l.cite.entry;
  answers = answers l.entry.now;
  properties = properties_with l.cite (state_of states l.cite.entry) None l.ibid l.usage;
}

-- entries with one more, unless it is listed
abbrev pub listed_with : List (Option Listed) → Listed → List (Option Listed)
listed_with ls l = slice_set ls l.index (option_or (slice_index_or ls l.index None) (Some l))

-- a cite as it is gathered, at an index in its request, by the tree that it prints
abbrev pub gathered_from : ℕ → ℕ → Bool → Bool → Children → Option Suffix → Gathered ℕ
gathered_from index number is_hidden has_locator tree suffix = record {
  cite = index;
  names = names_element tree;
  number = option_map (λ e. number) (element_with metas.CitationNumber tree);
  is_shown = not is_hidden;
  has_locator = has_locator;
  suffix = suffix;
}

-- the cites of items as they are gathered, from an index on, with the year suffixes of all entries
abbrev pub all_gathered : {T P : Type 0} → List (Option Suffix) → ℕ → List (CitationItem T P) → List NumberedCite → List prints.Printed → List (Gathered ℕ)
all_gathered year_suffixes index [] ns ss = []
all_gathered year_suffixes index (i ∷ is) [] ss = []
all_gathered year_suffixes index (i ∷ is) (n ∷ ns) [] = []
all_gathered year_suffixes index (i ∷ is) (n ∷ ns) (s ∷ ss) =
    gathered_from index n.number i.hidden (is_some i.locator) s.tree (slice_index_or year_suffixes n.entry None) ∷ all_gathered year_suffixes (index + 1) is ns ss

-- a cite in its citation, known by itself instead of its index among others
abbrev pub arranged_at : {Y : Type 0} → List Y → Arranged ℕ → Option (Arranged Y)
arranged_at ys a = option_map (λ y. arranged_as (λ n. y) a) (slice_get ys a.cite.cite)

-- cites in their citation one after the other, each known by itself instead of its index
abbrev pub arranged_in : {Y : Type 0} → List Y → List (Arranged ℕ) → List (Arranged Y)
arranged_in ys xs = filter_map (arranged_at ys) xs

-- a cite in its citation without the names by which it was put there
abbrev pub nameless : {Y : Type 0} → Arranged Y → Arranged Y
nameless a = record a { cite = record a.cite { names = None } }

-- what is left of a tree that was taken or not
abbrev pub IsLeft : Children → Children → Type 0
IsLeft left t = (left ≡ nothing) ⊎ (left ≡ t)

-- a cite with its final state, after an item, which has an index in its request
abbrev pub final_after : {P : Type 0} → (P → P → Bool) → States → Option (ℕ × Item P) → Arranged (FirstPrint P) → Final P
final_after same states last a = record {
  arranged = a;
  properties = record (properties_of (first_print_of a).numbered (state_of states (entry_of_first (first_print_of a)))) { ibid = ibid_of same counts_at_last last (first_print_of a).numbered.cite };
}

-- cites of a request, the first of them after an item, each other one after the one before it
abbrev pub finals_after : {P : Type 0} → (P → P → Bool) → States → Option (ℕ × Item P) → List (Arranged (FirstPrint P)) → List (Final P)
finals_after same states last [] = []
finals_after same states last (a ∷ xs) = final_after same states last a ∷ finals_after same states (Some (place_arranged a)) xs

-- the last item of cites, or the one before them
abbrev pub last_arranged : {P : Type 0} → Option (ℕ × Item P) → List (Arranged (FirstPrint P)) → Option (ℕ × Item P)
last_arranged last [] = last
last_arranged last (a ∷ xs) = last_arranged (Some (place_arranged a)) xs

-- the cites of requests as they are printed at last, each after the one before it
abbrev pub all_finals : {P : Type 0} → (P → P → Bool) → States → Option (ℕ × Item P) → List (List (Arranged (FirstPrint P))) → List (List (Final P))
all_finals same states last [] = []
all_finals same states last (xs ∷ xss) = finals_after same states last xs ∷ all_finals same states (last_arranged last xs) xss

-- What the cites of a request have come to: those that are shown, the entries that are listed, and the last item.
pub record Placed (P : Type 0) : Type 0 where
  pub shown : List Shown
  pub listed : List (Option Listed)
  pub last : Option (ℕ × Item P)

-- one more cite
abbrev pub placed_final : {P : Type 0} → Placed P → Final P → Placed P
placed_final p f = record { shown = p.shown ++ shown f; listed = listed_with p.listed (listed_as f); last = Some (place_of (cite_of f)) }

-- one more cite after the last
abbrev pub placed_with : {P : Type 0} → (P → P → Bool) → States → Placed P → Arranged (FirstPrint P) → Placed P
placed_with same states p a = placed_final p (final_after same states p.last a)

-- What requests have come to: their citations, the entries that are listed, and the last item.
pub record Cited (P : Type 0) : Type 0 where
  pub citations : List Citation
  pub listed : List (Option Listed)
  pub last : Option (ℕ × Item P)

-- one more request with these cites
abbrev pub cited_with : {P : Type 0} → (P → P → Bool) → Disambiguation → Cited P → Request P × List (FirstPrint P) → Cited P
cited_with same t c (r, bs) =
    let xs = arranged_for t (r, bs) in
    let fs = finals_after same t.states c.last xs in
    record { citations = c.citations ++ citation_in (r, fs) ∷ []; listed = fold listed_with c.listed (map listed_as fs); last = last_arranged c.last xs }

-- a cite in the final order, in a style, with these states of all entries
abbrev pub final_view : {T P : Type 0} → (T → Answers) → StyleContext → styles.Citation → States → FinalCite T P → arranged.Arranged → Final P
final_view answers x c states f a = record {
  arranged = arranged_as (λ n. first_print (numbered_view answers x f.item.now f.cite)) (arranged_view c a);
  properties = record (properties_of (numbered_view answers x f.item.now f.cite) (state_of states f.cite.entry)) { ibid = f.ibid };
}

-- the entry of a cite, listed by that
abbrev pub final_listed_view : {T P : Type 0} → (T → Answers) → States → FinalCite T P → Listed
final_listed_view answers states f = record {
  index = f.cite.entry;
  answers = answers f.item.now.entry.now;
  properties = properties_with f.cite (state_of states f.cite.entry) None f.ibid f.usage;
}

-- the index of the last cite in its request, and its item
abbrev pub last_cite_view : {T P : Type 0} → (T → Answers) → Option (LastCite T P) → Option (ℕ × Item P)
last_cite_view answers last = option_map (last_view answers) last

-- what the cites of a request have come to
abbrev pub placed_view : {T P : Type 0} → (T → Answers) → States → List ShownCite → List (Option (ListedCite T)) → Option (LastCite T P) → Placed P
placed_view answers states ss listed last = record { shown = map shown_view ss; listed = map (option_map (listed_view answers states)) listed; last = last_cite_view answers last }

-- what requests have come to
abbrev pub cited_view : {T P : Type 0} → (T → Answers) → States → List RenderedCitation → List (Option (ListedCite T)) → Option (LastCite T P) → Cited P
cited_view answers states cs listed last = record { citations = map rendered_citation_view cs; listed = map (option_map (listed_view answers states)) listed; last = last_cite_view answers last }
