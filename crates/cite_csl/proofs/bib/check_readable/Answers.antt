use Rattle.std.proofs.Common.{◌≡◌, Err, map, sym, ap, subst, ◌∙◌}
use Rattle.std.specs.Prelude.{IfSome}
use Rattle.biblatex.specs.Bibliographies.{listed_view}
use Rattle.interop.specs.Library.{all_faults, library_of}
use Rattle.interop.proofs.LibraryFaults.{none}
use Rattle.interop.specs.Views.{fault_view, refusal_of}
use Rattle.interop.specs.declared.error.BridgeError.{BridgeError}
use Rattle.cite_requests.specs.Stages.{library_stage}
use Rattle.cite_csl_styles.specs.Views.{sources_view}
use Rattle.cite_csl_styles.proofs.Stopped.{stopped}
use Rattle.cite_csl.specs.Works.{all_date_lines, bib_lines, said_by}
use Rattle.cite_csl.proofs.WorksRead.{dates_read, dates_refused}
use Rattle.cite_csl.proofs.bib.check_readable.Goals as goal

pub returns-in-Ok-clause-stage : goal.returns-in-Ok-clause-stage
returns-in-Ok-clause-stage c whole = dates_read (sources_view c.args.files.now) (listed_view c.args.file.now) c.in-Ok.ensures

pub returns-in-Err-Fields-clause-stage : goal.returns-in-Err-Fields-clause-stage
returns-in-Err-Fields-clause-stage c whole =
    let fs = sources_view c.args.files.now in
    let file = listed_view c.args.file.now in
    let faults = map fault_view c.as_slice.result.now in
    let lines = all_date_lines fs c.args.text.now faults in
    let found = subst (λ (e : BridgeError). IfSome (refusal_of e) (λ found. library_of file.entries ≡ Err found)) c.in-Err-Fields.field-0-is c.in-Err-Fields.ensures in
    stopped c.refused.result lines (λ a. said_by (bib_lines fs) (library_stage file) ≡ a) (c.refused.ensures lines c.date_lines.ensures)
    (dates_refused fs c.args.text.now file faults whole (found ∙ ap (λ xs. Err (map fault_view xs)) (sym c.as_slice.ensures.value)))

pub returns-in-Ok-clause-faults : goal.returns-in-Ok-clause-faults
returns-in-Ok-clause-faults c = none (all_faults (listed_view c.args.file.now).entries) _ _ c.in-Ok.ensures
