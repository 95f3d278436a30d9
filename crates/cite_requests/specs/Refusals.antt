-- The messages for refusals and errors.
use Rattle.std.specs.Prelude.{ℕ, List, ◌++◌, string_bytes, codes}
use Rattle.std.specs.Fmt.{decimal}
use Rattle.biblatex.specs.Errors as bibliographies
use Rattle.literature.specs.Errors as selectors
use Rattle.cite_requests.specs.Stages.{Refusal, bib_not_utf8, bib_refused, fields_refused, document_not_utf8, no_marker, unknown_name, section_refused, overflow}
use Rattle.cite_requests.specs.declared.error.CiteError.{CiteError}
use Rattle.cite_requests.specs.declared.error.CiteError.TheVariants as errors
use Rattle.cite_requests.specs.declared.error.BibTextError.{BibTextError}
use Rattle.cite_requests.specs.declared.error.BibTextError.TheVariants as bib
use Rattle.cite_requests.specs.declared.error.DocumentTextError.{DocumentTextError}
use Rattle.cite_requests.specs.declared.error.DocumentTextError.TheVariants as document

-- the message for bytes that are no text
abbrev pub not_utf8 : List ℕ
not_utf8 = codes "not UTF-8"

-- the message for an opening that no marker follows
abbrev pub marker_text : ℕ → List ℕ
marker_text offset = codes "marker at byte " ++ decimal offset

-- the message for the section at an index, from zero
abbrev pub section_text : ℕ → List ℕ → List ℕ
section_text index message = codes "section " ++ (decimal index ++ (codes ": " ++ message))

-- the message for a refusal; of fields that cannot be read this is the heading
abbrev pub refusal_text : Refusal → List ℕ
refusal_text bib_not_utf8 = codes "bib: " ++ not_utf8
refusal_text (bib_refused refusal) = codes "bib: " ++ bibliographies.reason_text refusal.reason
refusal_text (fields_refused faults) = codes "fields that cannot be read"
refusal_text document_not_utf8 = codes "document: " ++ not_utf8
refusal_text (no_marker offset) = codes "document: " ++ marker_text offset
refusal_text (unknown_name name) = codes "unknown name " ++ name
refusal_text (section_refused s) = section_text s.index (selectors.fault_text s.fault)
refusal_text overflow = codes "number too large"

-- the messages for the errors of the code
abbrev pub bib_text : BibTextError → List ℕ
bib_text bib.Utf8 = not_utf8
bib_text (bib.Parse error) = bibliographies.error_text error

abbrev pub document_text : DocumentTextError → List ℕ
document_text document.Utf8 = not_utf8
document_text (document.Marker offset) = marker_text offset

abbrev pub error_text : CiteError → List ℕ
error_text (errors.BibText error) = codes "bib: " ++ bib_text error
error_text (errors.Fields faults) = codes "fields that cannot be read"
error_text (errors.Document error) = codes "document: " ++ document_text error
error_text (errors.Name name) = codes "unknown name " ++ string_bytes name
error_text (errors.Selector index error) = section_text index (selectors.error_text error)
error_text errors.Memory = codes "out of memory"
error_text errors.Overflow = codes "number too large"
error_text (errors.Write fault) = codes "write failed"
