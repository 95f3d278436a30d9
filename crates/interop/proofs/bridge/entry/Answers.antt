use Rattle.std.proofs.Common.{ℕ, List, ap, sym, subst, ◌∙◌, Ok, Err, Result}
use Rattle.std.proofs.lemmas.Result.{err_from_is_err_and}
use Rattle.biblatex_entries.specs.Entries.{source_view}
use Rattle.biblatex_entries.specs.TypeNames.{written_type}
use Rattle.literature_entries.specs.EntriesData.{EntryData, entry_view}
use Rattle.literature_entries.specs.declared.entry.Entry.{Entry}
use Rattle.interop_values.specs.Values.{values}
use Rattle.interop.specs.Bridge.{bridged, faults_of, work_of, unless_faulty}
use Rattle.interop.specs.declared.dates.Dates.{Dates}
use Rattle.interop.specs.declared.error.BridgeError.{BridgeError}
use Rattle.interop.specs.Views.{dates_of, refusal_of}
use Rattle.laws.specs.Results.{Gives}
use Rattle.interop.proofs.BridgeDates.{accepted, refused}
use Rattle.interop.proofs.bridge.entry.Goals as goal

pub returns-in_err-dates : goal.returns-in_err-dates
returns-in_err-dates c =
    let e = source_view c.args.read.now in
    let v = values e.fields in
    let error = c.in_err-dates.field-0.0 in
    let p = err_from_is_err_and c.from_residual.result c.from_residual.ensures.1 in
    subst (λ (r : Result Entry BridgeError). Gives refusal_of entry_view r (bridged e)) (sym p.1)
    (subst (λ (x : BridgeError). Gives refusal_of entry_view (Err x) (bridged e)) (sym p.2)
    (refused (faults_of e.key v) (dates_of v) (work_of e.key (written_type e.entry_type) v) error
    (subst (λ (key : List ℕ). Gives refusal_of (λ (d : Dates). d) (Err error) (unless_faulty (faults_of key v) (dates_of v))) c.as_str.ensures.value c.in_err-dates.ensures)))

pub work-requires : goal.work-requires
work-requires c =
    let e = source_view c.args.read.now in
    let v = values e.fields in
    (accepted (faults_of e.key v) (dates_of v) c.in_ok-dates.dates (work_of e.key (written_type e.entry_type) v)
    (ap (λ (key : List ℕ). unless_faulty (faults_of key v) (dates_of v)) (sym c.as_str.ensures.value) ∙ c.in_ok-dates.ensures)).0

pub returns : goal.returns
returns c =
    let e = source_view c.args.read.now in
    let v = values e.fields in
    (accepted (faults_of e.key v) (dates_of v) c.in_ok-dates.dates (work_of e.key (written_type e.entry_type) v)
    (ap (λ (key : List ℕ). unless_faulty (faults_of key v) (dates_of v)) (sym c.as_str.ensures.value) ∙ c.in_ok-dates.ensures)).1
    ∙ ap (λ (w : EntryData). Ok w) (sym c.in_ok-work.ensures)
