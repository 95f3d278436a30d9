use Rattle.std.proofs.Common.{Err, subst}
use Rattle.std.specs.Prelude.{IfSome}
use Rattle.std.specs.Str.{chars}
use Rattle.biblatex.specs.Errors.{reason_view, refusal_of}
use Rattle.biblatex.specs.Reading.{Refusal}
use Rattle.biblatex.specs.Resolved.{TextMeans}
use Rattle.biblatex.specs.ParseError.{ParseError}
use Rattle.bib_show.specs.Program.{message_of}
use Rattle.bib_show.proofs.ProgramFaults.{refused_text, source_fault}
use Rattle.bib_show.proofs.program.text_output.Goals as goal

pub returns-in-Err-Refused-clause-fault : goal.returns-in-Err-Refused-clause-fault
returns-in-Err-Refused-clause-fault c =
    let refusal : Refusal = record { reason = reason_view c.in-Err-Refused.kind; start = c.in-Err-Refused.span.start; end = c.in-Err-Refused.span.end } in
    let means = subst (λ (e : ParseError). IfSome (refusal_of e) (λ r. TextMeans (chars c.args.text.now) (Err r))) c.in-Err-Refused.field-0-is c.in-Err-Refused.ensures.meaning in
    source_fault c.args.form c.args.path.now c.args.text.now (message_of c.text_fault.result)
    (refused_text c.args.path.now c.args.text.now (message_of c.text_fault.result) refusal c.utf8.text means (rw c.in-Err-Refused.field-0-is at c.text_fault.ensures))
