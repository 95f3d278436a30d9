-- Sections: selectors that choose works, in the order in which a bibliography lists them.
use Rattle.std.specs.Prelude.{ℕ, List, filter, Result, Ok, Err}
use Rattle.std.specs.List.{flat_map, enumerate_from}
use Rattle.literature_entries.specs.EntriesData.{EntryData}
use Rattle.literature.specs.Holding.{holds_at}
use Rattle.literature.specs.Reading.{Fault, selector_of}
use Rattle.literature.specs.Trees.{Tree}
use Rattle.cite_requests.specs.Steps.{all_ok}

-- a section that is no selector: its index, from zero, and its fault
pub record SectionFault : Type 0 where
  pub index : ℕ
  pub fault : Fault

-- a selector, or the fault of the section at an index
abbrev pub selector_or_fault : ℕ → Result Tree Fault → Result Tree SectionFault
selector_or_fault index (Ok x) = Ok x
selector_or_fault index (Err f) = Err (record { index = index; fault = f })

-- the selector of the section at an index
abbrev pub selector_in : ℕ × List ℕ → Result Tree SectionFault
selector_in (index, section) = selector_or_fault index (selector_of section)

-- the selectors of sections, or the first section that is none
abbrev pub selectors_of : List (List ℕ) → Result (List Tree) SectionFault
selectors_of sections = all_ok selector_in (enumerate_from 0 sections)

-- the works that selectors choose: for each selector those at which it holds, in the order of the library
abbrev pub chosen : List Tree → List EntryData → List EntryData
chosen selectors library = flat_map (λ x. filter (holds_at x) library) selectors
