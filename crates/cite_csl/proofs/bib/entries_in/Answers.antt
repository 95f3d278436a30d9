use Rattle.std.proofs.Common.{◌≡◌, Err, subst}
use Rattle.std.specs.Prelude.{IfSome}
use Rattle.std.specs.Str.{chars}
use Rattle.biblatex.specs.Bibliographies.{listed_view}
use Rattle.biblatex.specs.Errors.{reason_view, refusal_of}
use Rattle.biblatex.specs.Reading.{Refusal}
use Rattle.biblatex.specs.Resolved.{TextMeans}
use Rattle.biblatex.specs.ParseError.{ParseError}
use Rattle.cite_csl_styles.specs.Views.{sources_view}
use Rattle.cite_csl_styles.proofs.Stopped.{answers_weaker, stopped}
use Rattle.cite_csl.specs.Views.{works_view}
use Rattle.cite_csl.specs.Works.{AreWorks, bib_lines, refused_at, said_by, typographic_stage}
use Rattle.cite_csl.proofs.WorksRead.{keys_distinct, text_refused, works_given}
use Rattle.cite_csl.proofs.bib.entries_in.Goals as goal

pub checked-requires-clause-joined : goal.checked-requires-clause-joined
checked-requires-clause-joined c = c.in-Ok.ensures.joined

pub checked-requires-clause-distinct : goal.checked-requires-clause-distinct
checked-requires-clause-distinct c = keys_distinct c.args.text.now (listed_view c.in-Ok.file) c.utf8.text c.in-Ok.ensures.meaning

pub returns-in-Ok : goal.returns-in-Ok
returns-in-Ok c whole =
    let fs = sources_view c.args.files.now in
    let file = listed_view c.in-Ok.file in
    answers_weaker works_view c.checked.result (λ a. said_by (bib_lines fs) (typographic_stage file) ≡ a) (AreWorks fs)
    (λ a is. works_given fs c.args.text.now whole file a c.utf8.text c.in-Ok.ensures.meaning is) (c.checked.ensures whole)

pub returns-in-Err-Refused : goal.returns-in-Err-Refused
returns-in-Err-Refused c whole =
    let fs = sources_view c.args.files.now in
    let refusal : Refusal = record { reason = reason_view c.in-Err-Refused.kind; start = c.in-Err-Refused.span.start; end = c.in-Err-Refused.span.end } in
    let means = subst (λ (e : ParseError). IfSome (refusal_of e) (λ r. TextMeans (chars c.args.text.now) (Err r))) c.in-Err-Refused.field-0-is c.in-Err-Refused.ensures.meaning in
    stopped c.refused.result (refused_at fs refusal.start refusal.reason) (AreWorks fs) (c.refused.ensures (refused_at fs refusal.start refusal.reason) (c.refused_lines.ensures whole))
    (text_refused fs c.args.text.now whole refusal c.utf8.text means)
