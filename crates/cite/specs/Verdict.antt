-- What a call of `cite` has to do: refuse, at the first stage that refuses and with its fault, or write the output.
use Rattle.std.specs.Prelude.{◌≡◌, ℕ, List, Result, Ok}
use Rattle.laws.specs.Results.{◌>>=◌}
use Rattle.laws.specs.Text.{text}
use Rattle.literature_entries.specs.EntriesData.{EntryData}
use Rattle.rendering_output.specs.declared.writing.BufWriteFormat.{BufWriteFormat}
use Rattle.rendering_context.specs.Contexts.{StyleContext}
use Rattle.driver_requests.specs.CitedEntries.{indices_among}
use Rattle.cite_markers.specs.Document.{Piece}
use Rattle.driver_rounds.specs.Documents.{Document}
use Rattle.driver.specs.Finish.{Rendered, finish}
use Rattle.cite_requests.specs.Markers.{CitedWork}
use Rattle.cite_output.specs.Output.{output_text}
use Rattle.cite_requests.specs.Requests.{OwnLocator, is_same_own, requests_of, works_in}
use Rattle.cite_requests.specs.Sections.{chosen}
use Rattle.cite_requests.specs.Stages.{Refusal, overflow, refused_as, AreWorksOf, document_stage, name_stage, section_stage}
use Rattle.cite_requests.specs.Works.{Works, is_same}

-- What a call is given beside the bib text: the bytes of the document, the style with its locale, the sections as characters,
-- and the format.
pub record Task : Type 0 where
  pub document : List ℕ
  pub context : StyleContext
  pub sections : List (List ℕ)
  pub format : BufWriteFormat

-- the requests, and the bibliography in which the chosen works come first, so far as they are cited
abbrev pub driver_document : StyleContext → List EntryData → List (List CitedWork) → Document OwnLocator
driver_document context chosen markers = record {
  requests = requests_of context markers;
  bibliography_context = context;
  wanted = indices_among is_same (works_in markers) chosen;
  offset = 0;
}

-- where no stage refuses: citations and bibliography, or that a number or a year suffix is too great
abbrev pub driver_stage : StyleContext → List EntryData → List (List CitedWork) → Result Rendered Refusal
driver_stage context wanted markers = refused_as (λ _. overflow) (finish is_same_own (driver_document context wanted markers))

-- what the pieces of a document come to: its names, then the sections, and then citations and bibliography
unfoldable pub rendered_stage : Works → StyleContext → List (List ℕ) → List Piece → Result Rendered Refusal
rendered_stage works context sections pieces = do
  markers ← name_stage works pieces
  selectors ← section_stage sections
  driver_stage context (chosen selectors works.library) markers

-- the output, or the refusal that comes first, once it is known what the bib text comes to
unfoldable pub verdict : Result Works Refusal → Task → Result (List ℕ) Refusal
verdict works_or_refusal task = do
  works ← works_or_refusal
  pieces ← document_stage task.document
  rendered ← rendered_stage works task.context task.sections pieces
  Ok (text (output_text task.format pieces rendered))

-- the output of a call, or the refusal that comes first
abbrev pub IsVerdict : List ℕ → Task → Result (List ℕ) Refusal → Type 0
IsVerdict bib task answer = (works : Result Works Refusal) × AreWorksOf bib works × (answer ≡ verdict works task)
