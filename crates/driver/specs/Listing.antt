-- The bibliography from what its style prints of each entry.
use Rattle.std.specs.Prelude.{◌≡◌, ℕ, List, filter_map, length, map, slice_index_or, zip, IfSome, Option, None}
use Rattle.std.specs.Borrow.{Bor}
use Rattle.std.specs.Option.{option_and_then, option_map, option_map_or}
use Rattle.rendering_context.specs.Cites.{DisambiguateState}
use Rattle.rendering_entries.specs.Answers.{Answers}
use Rattle.rendering_style.specs.Styles.{Bibliography}
use Rattle.rendering_context.specs.Contexts.{StyleContext}
use Rattle.rendering.specs.Purposes.{bibliography}
use Rattle.driver_requests.specs.Requests.{Request}
use Rattle.driver_bibliography.specs.Items.{items_of}
use Rattle.driver_bibliography.specs.Substitution.{Printed}
use Rattle.driver.specs.FinalPrints.{Listed, first_listed}
use Rattle.driver.specs.Finish.{Rendered, RenderedBibliography, citation_in, printed_item}
use Rattle.driver.specs.Stages.{Final}
use Rattle.driver_rounds.specs.FirstPrints.{flattened}
use Rattle.driver_rounds.specs.Views.{properties_with}
use Rattle.driver.specs.declared.final_prints.ListedCite.{ListedCite}

-- the bibliography from what is printed of its items
abbrev pub bibliography_from : Bibliography → List Printed → RenderedBibliography
bibliography_from b ps = record {
  hanging_indent = b.hanging_indent;
  second_field_align = b.second_field_align;
  line_spacing = b.line_spacing;
  entry_spacing = b.entry_spacing;
  items = items_of b ps;
}

-- the keys of entries that are borrowed
abbrev pub keys_of : {T : Type 0} → (T → Answers) → List (Bor T) → List (List ℕ)
keys_of {T} answers es = map (λ (e : Bor T). (answers e.now).key) es

-- an entry that the code lists, by its state
abbrev pub listed_in_state : {T : Type 0} → (T → Answers) → DisambiguateState → ListedCite T → Listed
listed_in_state answers state l = record {
  index = l.cite.entry;
  answers = answers l.entry.now;
  properties = properties_with l.cite state None l.ibid l.usage;
}

-- what the bibliography prints of an entry, where there is one
abbrev pub item_listed : StyleContext → Listed → Option Printed
item_listed x l = option_map printed_item (bibliography x l.answers l.properties None)

-- what the bibliography prints of the entry at an index, where it is listed
abbrev pub item_at : StyleContext → List (Option Listed) → ℕ → Option Printed
item_at x ls index = option_and_then (item_listed x) (slice_index_or ls index None)

-- what the bibliography prints of entries in that order
abbrev pub trees_listed : StyleContext → List (Option Listed) → List ℕ → List Printed
trees_listed x ls order = filter_map (item_at x ls) order

-- the key of an entry, where the bibliography prints this
abbrev pub key_printed : StyleContext → Listed → Option (List ℕ)
key_printed x l = option_map (λ (p : Printed). l.answers.key) (item_listed x l)

-- the key of the entry at an index, where it is listed and the bibliography prints it
abbrev pub key_listed_at : StyleContext → List (Option Listed) → ℕ → Option (List ℕ)
key_listed_at x ls index = option_and_then (key_printed x) (slice_index_or ls index None)

-- the keys of the entries that the bibliography prints, in that order
abbrev pub keys_listed : StyleContext → List (Option Listed) → List ℕ → List (List ℕ)
keys_listed x ls order = filter_map (key_listed_at x ls) order

-- what is listed at an index is the entry of that index
abbrev pub AreAtIndices : List (Option Listed) → Type 0
AreAtIndices ls = (index : ℕ) → IfSome (slice_index_or ls index None) (λ l. l.index ≡ index)

-- the entry at an index, in the bibliography
abbrev pub item_first : {P : Type 0} → StyleContext → List (Final P) → ℕ → Option Printed
item_first x fs index = option_and_then (item_listed x) (first_listed fs index)

-- the key of the entry at an index, where the bibliography prints this
abbrev pub key_first : {P : Type 0} → StyleContext → List (Final P) → ℕ → Option (List ℕ)
key_first x fs index = option_and_then (key_printed x) (first_listed fs index)

-- the keys of the entries that the bibliography prints by their first cites, in that order
abbrev pub keys_first : {P : Type 0} → StyleContext → List (Final P) → List ℕ → List (List ℕ)
keys_first x fs order = filter_map (key_first x fs) order

-- these keys where the style has a bibliography, from the cites of requests as they are printed at last
abbrev pub keys_made : {P : Type 0} → StyleContext → List ℕ → List (List (Final P)) → Option (List (List ℕ))
keys_made x order fss = option_map (λ b. keys_first x (flattened fss) order) x.style.bibliography

-- how many entries are printed in the bibliography at most: none where the style has none
abbrev pub items_at_most : StyleContext → List ℕ → ℕ
items_at_most x order = option_map_or (λ b. length order) x.style.bibliography 0

-- citations and bibliography, from the cites of requests as they are printed at last
abbrev pub rendered_of : {P : Type 0} → StyleContext → List ℕ → List (Request P) → List (List (Final P)) → Rendered
rendered_of x order rs fss = record {
  bibliography = option_map (λ b. bibliography_from b (filter_map (item_first x (flattened fss)) order)) x.style.bibliography;
  citations = map citation_in (zip rs fss);
}
