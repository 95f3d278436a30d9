-- What a call returns where its definition gives a value or a refusal.
use Rattle.std.specs.Prelude.{◌≡◌, ℕ, map, Option, Some, None, Result, Ok, Err, string_bytes}
use Rattle.biblatex.specs.Reading as reading
use Rattle.biblatex.specs.Errors.{refusal_of}
use Rattle.interop.specs.Views.{fault_view}
use Rattle.interop.specs.declared.error.BridgeError.{BridgeError}
use Rattle.interop.specs.declared.error.BridgeError.TheVariants as bridge
use Rattle.literature.specs.Reading.{Fault}
use Rattle.literature.specs.Views as selectors
use Rattle.cite_requests.specs.Stages.{Refusal, bib_not_utf8, bib_refused, fields_refused, document_not_utf8, no_marker, unknown_name, section_refused, overflow}
use Rattle.sinks.specs.declared.sink.SinkFault.{SinkFault}
use Rattle.cite_requests.specs.declared.error.CiteError.{CiteError}
use Rattle.cite_requests.specs.declared.error.CiteError.TheVariants as errors
use Rattle.cite_requests.specs.declared.error.BibTextError.TheVariants as bib
use Rattle.cite_requests.specs.declared.error.DocumentTextError.TheVariants as document

-- what may be answered: a value or a refusal that is right
abbrev pub Wanted : Type 0 → Type 1
Wanted Y = Result Y Refusal → Type 0

-- the refusal of a bib text; out of memory is none
abbrev pub IsBibRefusal : {Y : Type 0} → Option reading.Refusal → Wanted Y → Type 0
IsBibRefusal None wanted = ⊥
IsBibRefusal (Some refusal) wanted = wanted (Err (bib_refused refusal))

-- the refusal of the section at an index; out of memory is none
abbrev pub IsSectionRefusal : {Y : Type 0} → ℕ → Option Fault → Wanted Y → Type 0
IsSectionRefusal index None wanted = ⊥
IsSectionRefusal index (Some fault) wanted = wanted (Err (section_refused (record { index = index; fault = fault })))

-- The error is a refusal that is wanted. Memory may stand instead of any answer; a failed write is no refusal.
abbrev pub IsRefusal : {Y : Type 0} → CiteError → Wanted Y → Type 0
IsRefusal errors.Memory wanted = Unit {0}
IsRefusal (errors.BibText bib.Utf8) wanted = wanted (Err bib_not_utf8)
IsRefusal (errors.BibText (bib.Parse error)) wanted = IsBibRefusal (refusal_of error) wanted
IsRefusal (errors.Fields faults) wanted = wanted (Err (fields_refused (map fault_view faults.items)))
IsRefusal (errors.Document document.Utf8) wanted = wanted (Err document_not_utf8)
IsRefusal (errors.Document (document.Marker offset)) wanted = wanted (Err (no_marker offset))
IsRefusal (errors.Name name) wanted = wanted (Err (unknown_name (string_bytes name)))
IsRefusal (errors.Selector index error) wanted = IsSectionRefusal index (selectors.fault error) wanted
IsRefusal errors.Overflow wanted = wanted (Err overflow)
IsRefusal (errors.Write fault) wanted = ⊥

-- what the bridge refuses, as an error of a call
abbrev pub bridge_error : BridgeError → CiteError
bridge_error bridge.Memory = errors.Memory
bridge_error (bridge.Fields faults) = errors.Fields faults

-- What was returned, under the view, is wanted, unless memory ran out.
abbrev pub Answers : {X Y : Type 0} → (X → Y) → Result X CiteError → Wanted Y → Type 0
Answers view (Ok x) wanted = wanted (Ok (view x))
Answers view (Err e) wanted = IsRefusal e wanted

-- What was returned, under the view, is this, unless memory ran out.
abbrev pub Gives : {X Y : Type 0} → (X → Y) → Result X CiteError → Result Y Refusal → Type 0
Gives view result answer = Answers view result (λ a. answer ≡ a)

-- an output is wanted, and this holds of it
abbrev pub Writes : {Y : Type 0} → Wanted Y → (Y → Type 0) → Type 0
Writes {Y} wanted P = (output : Y) × wanted (Ok output) × P output

-- the fact, unless the error is a failed write
abbrev pub UnlessWrite : CiteError → Type 0 → Type 0
UnlessWrite (errors.Write fault) P = Unit {0}
UnlessWrite other P = P

-- the fact, where the error is a failed write
abbrev pub OnWrite : CiteError → Type 0 → Type 0
OnWrite (errors.Write fault) P = P
OnWrite other P = Unit {0}

-- the fault of a failed write is this
abbrev pub IsLastFault : CiteError → Option SinkFault → Type 0
IsLastFault (errors.Write fault) last = last ≡ Some fault
IsLastFault other last = Unit {0}

-- the error is a refusal that is wanted, or a failed write
abbrev pub IsRefusalUnlessWrite : {Y : Type 0} → CiteError → Wanted Y → Type 0
IsRefusalUnlessWrite e wanted = UnlessWrite e (IsRefusal e wanted)
