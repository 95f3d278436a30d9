-- Citations and bibliographies of documents in the order of a style's sort keys.
use Rattle.std.specs.Prelude.{ℕ, Bool, ◌||◌, List, ◌++◌, map, if◌then◌else◌, Result}
use Rattle.std.specs.Option.{option_map}
use Rattle.laws.specs.Results.{◌>>=◌}
use Rattle.laws.specs.Text.{is_filled}
use Rattle.literature.specs.Trees.{Tree}
use Rattle.literature_entries.specs.EntriesData.{EntryData}
use Rattle.rendering_context.specs.Contexts.{StyleContext}
use Rattle.rendering_entries.specs.Library.{answers_of}
use Rattle.rendering_sorting.specs.Keys.{Part}
use Rattle.rendering_style.specs.Styles.{Style}
use Rattle.driver_requests.specs.CitedEntries.{once}
use Rattle.driver_requests.specs.Requests.{plain_locator}
use Rattle.driver_order.specs.EntryKeys.{citation_keys}
use Rattle.driver_order.specs.Order.{entries_in_order}
use Rattle.driver_order.specs.Ordered.{ordered_by}
use Rattle.driver_order.specs.Sorted.{number_among}
use Rattle.driver.specs.Finish.{Rendered}
use Rattle.cite_markers.specs.Document.{Piece}
use Rattle.cite_requests.specs.Markers.{CitedWork}
use Rattle.cite_requests.specs.Requests.{locator_of, works_in}
use Rattle.cite_requests.specs.Sections.{chosen}
use Rattle.cite_requests.specs.Stages.{Refusal, name_stage, section_stage}
use Rattle.cite_requests.specs.Works.{Works, is_same}
use Rattle.cite.specs.Verdict.{driver_stage}

-- a style with its languages, and the same style as it prints for sorting
pub record Setting : Type 0 where
  pub context : StyleContext
  pub sorting : Style

-- what keys are printed from
abbrev pub keys_context : Setting → StyleContext
keys_context s = record s.context { style = s.sorting }

-- whether cites or the bibliography are sorted
abbrev pub has_keys : Style → Bool
has_keys s = is_filled s.citation_sort || is_filled s.bibliography_sort

-- the works that are cited, in the order of the bibliography
abbrev pub works_in_order : Setting → List (List CitedWork) → List EntryData
works_in_order s markers =
    entries_in_order (keys_context s) answers_of (once is_same (works_in markers))

-- the works among which sections choose: those that are cited, in their order, where the bibliography is sorted, else the library
abbrev pub choices : Style → List EntryData → List EntryData → List EntryData
choices s cited library = if is_filled s.bibliography_sort then cited else library

-- the order of the bibliography: what sections choose comes first, then the rest
abbrev pub order_of : Style → List Tree → List EntryData → List EntryData → List EntryData
order_of s selectors library cited = chosen selectors (choices s cited library) ++ cited

-- the keys of a cite, where works have numbers
abbrev pub cite_keys : StyleContext → (EntryData → ℕ) → CitedWork → List Part
cite_keys x number c =
    let locator = option_map plain_locator (option_map locator_of c.cite.locator) in
    citation_keys x (answers_of c.work) (number c.work) locator

-- the cites of each marker in the order of their keys
abbrev pub markers_in_order : StyleContext → (EntryData → ℕ) → List (List CitedWork)
    → List (List CitedWork)
markers_in_order x number markers = map (ordered_by (cite_keys x number)) markers

-- the number of a work in the bibliography
abbrev pub number_of : Style → List (List CitedWork) → List EntryData → EntryData → ℕ
number_of s markers order = number_among is_same s order (works_in markers)

-- citations and bibliography, where the bibliography has that order
abbrev pub stage_with : Setting → List (List CitedWork) → List EntryData → Result Rendered Refusal
stage_with s markers order =
    let number = number_of s.sorting markers order in
    driver_stage s.context order (markers_in_order (keys_context s) number markers)

-- citations and bibliography that are sorted
abbrev pub stage_by_order : Setting → List Tree → List EntryData → List (List CitedWork)
    → Result Rendered Refusal
stage_by_order s selectors library markers =
    stage_with s markers (order_of s.sorting selectors library (works_in_order s markers))

-- and where they may be
abbrev pub stage_in_order : Setting → List Tree → List EntryData → List (List CitedWork)
    → Result Rendered Refusal
stage_in_order s selectors library markers =
    if has_keys s.sorting then stage_by_order s selectors library markers
    else driver_stage s.context (chosen selectors library) markers

-- what the pieces of a document come to: its names, then the sections, and then citations and bibliography
unfoldable pub rendered_in_order : Works → Setting → List (List ℕ) → List Piece
    → Result Rendered Refusal
rendered_in_order works s sections pieces = do
  markers ← name_stage works pieces
  selectors ← section_stage sections
  stage_in_order s selectors works.library markers
