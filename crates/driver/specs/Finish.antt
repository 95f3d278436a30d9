-- Citations and bibliography of a document.
use Rattle.std.specs.Prelude.{ℕ, ◌+◌, ◌*◌, Bool, ◌==◌, ◌||◌, List, [], ◌∷◌, map, zip, find, filter_map, length, if◌then◌else◌, Option, None, Result, Ok, Err, ℤ}
use Rattle.std.specs.List.{flat_map}
use Rattle.std.specs.Option.{option_map, option_map_or, option_and_then}
use Rattle.rendering_tree.specs.Trees.{Children}
use Rattle.rendering_style.specs.Styles.{Bibliography}
use Rattle.rendering_context.specs.Cites.{CiteProperties}
use Rattle.rendering.specs.Purposes.{Rendered as Rendering, bibliography}
use Rattle.rendering.specs.Words.{joining_quotes}
use Rattle.driver_requests.specs.Errors.{Overflow, overflow}
use Rattle.driver_requests.specs.Requests.{Request, cites_entry}
use Rattle.driver_requests.specs.Order.{cited, numbers_overflow}
use Rattle.driver_disambiguation.specs.States.{suffixes_overflow}
use Rattle.driver_disambiguation.specs.Rounds.{Disambiguation}
use Rattle.driver_bibliography.specs.Items.{Fields, items_of}
use Rattle.driver_bibliography.specs.Substitution.{Printed}
use Rattle.driver_citations.specs.Citations.{Shown, citation_of}
use Rattle.driver_rounds.specs.Documents.{Document, order_in, items_count}
use Rattle.driver_rounds.specs.FirstPrints.{FirstPrint, flattened, first_prints_in, disambiguated_in, first_naming}
use Rattle.driver_rounds.specs.Naming.{first_effort}
use Rattle.driver.specs.Stages.{Final, first_print_of, finals_in, has_purpose, cite_of, printed_at_last}
use Rattle.rendering_taxonomy.specs.declared.style.SecondFieldAlign.{SecondFieldAlign}

-- A citation, and the number of its note.
pub record Citation : Type 0 where
  pub note_number : Option ℕ
  pub tree : Children

-- The bibliography, with what the style says of its lines.
pub record RenderedBibliography : Type 0 where
  pub hanging_indent : Bool
  pub second_field_align : Option SecondFieldAlign
  pub line_spacing : ℤ
  pub entry_spacing : ℤ
  pub items : List Fields

-- The bibliography, where its style has one, and a citation for each request.
pub record Rendered : Type 0 where
  pub bibliography : Option RenderedBibliography
  pub citations : List Citation

-- a cite that is shown, by its last print
abbrev pub shown_cite : {P : Type 0} → Final P → Shown
shown_cite f = record { delimiter = f.arranged.delimiter; index = (cite_of f).index; tree = printed_at_last f }

-- a cite in its citation, where it is shown
abbrev pub shown : {P : Type 0} → Final P → List Shown
shown f = if f.arranged.is_shown then shown_cite f ∷ [] else []

-- what the citation of a request prints
abbrev pub citation_tree : {P : Type 0} → Request P → List (Final P) → Children
citation_tree r fs = citation_of (joining_quotes r.context) r.context.style.citation.layout (has_purpose r) (flat_map shown fs)

-- the citation of a request
abbrev pub citation_in : {P : Type 0} → Request P × List (Final P) → Citation
citation_in (r, fs) = record { note_number = r.note_number; tree = citation_tree r fs }

-- whether a cite is of the entry at an index
abbrev pub is_final_of : {P : Type 0} → ℕ → Final P → Bool
is_final_of index f = (cite_of f).item.entry.index == index

-- what is known of an entry for its item: what is known of the cite, without locator, and which identifiers that cite printed at first
abbrev pub item_properties : {P : Type 0} → Final P → CiteProperties
item_properties f = record f.properties { identifier_usage = (first_print_of f.arranged).rendered.usage }

-- what is printed of an item, of what a call gives
abbrev pub printed_item : Rendering → Printed
printed_item r = record { tree = r.tree; names = r.first_names }

-- the item of a bibliography for the entry of a cite, with that cite's properties; the cite is the entry's first in the final order
abbrev pub item_of_cite : {P : Type 0} → Document P → Final P → Option Printed
item_of_cite d f = option_map printed_item (bibliography d.bibliography_context (cite_of f).item.entry.answers (item_properties f) None)

-- the item of the entry at an index, by its first cite
abbrev pub item_of_entry : {P : Type 0} → Document P → List (Final P) → ℕ → Option Printed
item_of_entry d fs index = option_and_then (item_of_cite d) (find (is_final_of index) fs)

-- what the bibliography prints of the cited entries, in their order
abbrev pub item_trees : {P : Type 0} → Document P → List (Final P) → List Printed
item_trees d fs = filter_map (item_of_entry d fs) (order_in d)

-- the items of the bibliography
abbrev pub items_in : {P : Type 0} → Document P → List (Final P) → Bibliography → List Fields
items_in d fs b = items_of b (item_trees d fs)

-- the bibliography
abbrev pub bibliography_in : {P : Type 0} → Document P → List (Final P) → Bibliography → RenderedBibliography
bibliography_in d fs b = record {
  hanging_indent = b.hanging_indent;
  second_field_align = b.second_field_align;
  line_spacing = b.line_spacing;
  entry_spacing = b.entry_spacing;
  items = items_in d fs b;
}

-- citations and bibliography, from the cites as they are printed at last
abbrev pub rendered_from : {P : Type 0} → Document P → List (List (Final P)) → Rendered
rendered_from d fss = record {
  bibliography = option_map (bibliography_in d (flattened fss)) d.bibliography_context.style.bibliography;
  citations = map citation_in (zip d.requests fss);
}

-- whether a number is above the greatest that is printed, or a year suffix is after the 256th
abbrev pub overflows : {P : Type 0} → Document P → Disambiguation → Bool
overflows d t = numbers_overflow d.offset (cited d.requests) || suffixes_overflow t.given

-- citations and bibliography, from first prints and states
abbrev pub finish_disambiguated : {P : Type 0} → (P → P → Bool) → Document P → List (List (FirstPrint P)) → Disambiguation → Result Rendered Overflow
finish_disambiguated same d bs t = if overflows d t then Err overflow else Ok (rendered_from d (finals_in same d bs t))

-- citations and bibliography, from first prints
abbrev pub finish_first : {P : Type 0} → (P → P → Bool) → Document P → List (List (FirstPrint P)) → Result Rendered Overflow
finish_first same d bs = finish_disambiguated same d bs (disambiguated_in d bs)

-- Citations and bibliography of a document, or that a number is above the greatest that is printed, or a year suffix is after the last.
abbrev pub finish : {P : Type 0} → (P → P → Bool) → Document P → Result Rendered Overflow
finish same d = finish_first same d (first_prints_in same d)

-- the key of the entry at an index
abbrev pub key_at : {P : Type 0} → Document P → ℕ → Option (List ℕ)
key_at d index = option_map (λ i. i.entry.answers.key) (find (cites_entry index) (flat_map (λ r. r.items) d.requests))

-- The keys of the items of the bibliography, in their order.
abbrev pub keys_in : {P : Type 0} → Document P → List (List ℕ)
keys_in d = filter_map (key_at d) (order_in d)

-- How many calls of styles `finish` takes at most: five for each item, one more where given names are printed before cites are compared,
-- one more where what names give to alike cites stays, and one for each cited entry where there is a bibliography.
abbrev pub effort_bound : {P : Type 0} → Document P → ℕ
effort_bound d = first_effort (first_naming d.requests) (items_count d) + 5 * items_count d + option_map_or (λ b. length (cited d.requests)) d.bibliography_context.style.bibliography 0
