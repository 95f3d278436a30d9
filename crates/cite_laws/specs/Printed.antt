-- The last prints of the cites of a document: which output they make, and what the prints of cites of one work share.
use Rattle.std.specs.Prelude.{◌≡◌, ◌↔◌, ◌+◌, ℕ, List, length, zip, slice_get, Contains, Some, Ok}
use Rattle.laws.specs.Text.{text}
use Rattle.literature_entries.specs.EntriesData.{EntryData}
use Rattle.interop.specs.Library.{key_of}
use Rattle.rendering_context.specs.Answering.{number_answer, of_count}
use Rattle.rendering_context.specs.Contexts.{Context}
use Rattle.rendering_style.specs.Styles.{Bibliography}
use Rattle.rendering_taxonomy.specs.declared.variable.NumberVariable.TheVariants.{CitationNumber}
use Rattle.driver_requests.specs.CitedEntries.{index_among}
use Rattle.driver_rounds.specs.Documents.{Document}
use Rattle.driver_rounds.specs.FirstPrints.{flattened}
use Rattle.driver.specs.Finish.{item_of_entry, item_trees, items_in, keys_in, rendered_from}
use Rattle.driver.specs.Stages.{Final, cite_of, finals_by_request}
use Rattle.cite_markers.specs.Marker.{Cite}
use Rattle.cite.specs.Alike.{IsBibRead, IsTaskRead}
use Rattle.cite_requests.specs.Markers.{markers_of}
use Rattle.cite_output.specs.Output.{output_text}
use Rattle.cite_requests.specs.Requests.{OwnLocator, is_same_own, works_in}
use Rattle.cite_requests.specs.Sections.{chosen}
use Rattle.cite.specs.Verdict.{Task, IsVerdict, driver_document}
use Rattle.cite_requests.specs.Works.{is_same, meaning}

-- No stage refuses a bib text, a document, its names or its sections.
pub record NoneIsRefused (bib : List ℕ) (task : Task) : Type 0 where
  pub asked : IsTaskRead task
  pub file : IsBibRead bib asked.pieces

-- what a driver is asked
abbrev pub document_of : {bib : List ℕ} {task : Task} → NoneIsRefused bib task → Document OwnLocator
document_of {task = task} read = driver_document task.context (chosen read.asked.selectors read.file.works.library) read.file.markers

-- the last prints of the cites of each marker, in their final order
abbrev pub prints_by_marker : {bib : List ℕ} {task : Task} → NoneIsRefused bib task → List (List (Final OwnLocator))
prints_by_marker read = finals_by_request is_same_own (document_of read)

-- the last prints of all cites
abbrev pub all_prints : {bib : List ℕ} {task : Task} → NoneIsRefused bib task → List (Final OwnLocator)
all_prints read = flattened (prints_by_marker read)

-- A print is that of a cite of the document: it is one of the prints of a marker, and the cite stands in the marker at its index.
pub record IsPrintOf {bib : List ℕ} {task : Task} (read : NoneIsRefused bib task) (cite : Cite) (print : Final OwnLocator) : Type 0 where
  pub marker : List Cite
  pub prints : List (Final OwnLocator)
  pub beside : Contains (zip (markers_of read.asked.pieces) (prints_by_marker read)) (marker, prints)
  pub among : Contains prints print
  pub stands : slice_get marker (cite_of print).index ≡ Some cite

-- An output is made of these prints: no stage refuses, and citations and bibliography are those of the prints.
abbrev pub OutputsAreOfPrints : Type 0
OutputsAreOfPrints =
    (bib : List ℕ) (task : Task) (output : List ℕ) → IsVerdict bib task (Ok output)
    → (read : NoneIsRefused bib task)
    × (output ≡ text (output_text task.format read.asked.pieces (rendered_from (document_of read) (prints_by_marker read))))

-- Each cite of a document has a print.
abbrev pub EachCiteIsPrinted : Type 0
EachCiteIsPrinted =
    (bib : List ℕ) (task : Task) (read : NoneIsRefused bib task) (marker : List Cite) (cite : Cite)
    → Contains (markers_of read.asked.pieces) marker → Contains marker cite → (print : Final OwnLocator) × IsPrintOf read cite print

-- Two cites whose names mean one work have one number and one state of disambiguation.
abbrev pub NamesOfOneWorkShareNumberAndState : Type 0
NamesOfOneWorkShareNumberAndState =
    (bib : List ℕ) (task : Task) (read : NoneIsRefused bib task) (c d : Cite) (f g : Final OwnLocator)
    → IsPrintOf read c f → IsPrintOf read d g → meaning (text c.name) read.file.works ≡ meaning (text d.name) read.file.works
    → (f.properties.citation_number ≡ g.properties.citation_number) × (f.properties.disambiguation ≡ g.properties.disambiguation)

-- A work has one item in a bibliography: its key stands at this place of the keys of the items, from zero, and at no other; the item there is
-- the one that is printed for the work; and there are as many items as keys.
pub record StandsOnceAt {bib : List ℕ} {task : Task} (read : NoneIsRefused bib task) (bibliography : Bibliography) (work : EntryData) (place : ℕ) : Type 0 where
  pub key : (n : ℕ) → (slice_get (keys_in (document_of read)) n ≡ Some (key_of work)) ↔ (n ≡ place)
  pub item :
      slice_get (item_trees (document_of read) (all_prints read)) place
      ≡ item_of_entry (document_of read) (all_prints read) (index_among is_same (works_in read.file.markers) work)
  pub count : length (items_in (document_of read) (all_prints read) bibliography) ≡ length (keys_in (document_of read))

-- Where the style has a bibliography, the number of a cite is the place there of the work that its name means.
abbrev pub NumbersArePlaces : Type 0
NumbersArePlaces =
    (bib : List ℕ) (task : Task) (read : NoneIsRefused bib task) (b : Bibliography) (c : Cite) (f : Final OwnLocator) (work : EntryData)
    → task.context.style.bibliography ≡ Some b → IsPrintOf read c f → meaning (text c.name) read.file.works ≡ Some work
    → StandsOnceAt read b work f.properties.citation_number

-- And a cite answers to its style with that place, counted from one: what is printed of the variable `citation-number` is this answer.
abbrev pub PrintedNumbersArePlaces : Type 0
PrintedNumbersArePlaces =
    (bib : List ℕ) (task : Task) (read : NoneIsRefused bib task) (b : Bibliography) (c : Cite) (f : Final OwnLocator) (work : EntryData)
    → task.context.style.bibliography ≡ Some b → IsPrintOf read c f → meaning (text c.name) read.file.works ≡ Some work
    → (place : ℕ) × StandsOnceAt read b work place
    × ((context : Context) → context.properties ≡ f.properties → number_answer context CitationNumber ≡ of_count (place + 1))
