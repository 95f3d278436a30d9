use Rattle.std.proofs.Common.{◌≡◌, Err, rules}
use Rattle.std.specs.Io.KnownBytes.{Appends}
use Rattle.cite_output.specs.Pieces.{output_of}
use Rattle.cite.specs.Views.{task_of}
use Rattle.cite.proofs.CitedOutputs.{output_cited}
use Rattle.cite.proofs.RewrittenAnswers.{refused_alike}
use Rattle.cite.proofs.engine.cite_at_exit.Goals as goal

pub returns-in_err-output-clause-refused : goal.returns-in_err-output-clause-refused
returns-in_err-output-clause-refused g c =
    let is : c.from_residual.result ≡ Err c.in_err-output.field-0.0 = search rules in
    refused_alike c.args.bib.now (task_of c.args.document.now c.args.style.now c.args.locale.now c.args.sections.now c.args.format) c.from_residual.result c.in_err-output.field-0.0 is c.in_err-output.ensures

pub returns-in-Err-clause-refused : goal.returns-in-Err-clause-refused
returns-in-Err-clause-refused g c = record { first = tt; rewriting = λ file settled. tt }

pub returns-in-Err-clause-cut_short : goal.returns-in-Err-clause-cut_short
returns-in-Err-clause-cut_short g c = (output_of c.in_ok-output.output, c.in_ok-output.ensures, c.in-Err.ensures.err)

pub returns-in-Ok-clause-written : goal.returns-in-Ok-clause-written
returns-in-Ok-clause-written g c =
    output_cited c.args.bib.now (task_of c.args.document.now c.args.style.now c.args.locale.now c.args.sections.now c.args.format)
    (λ output. Appends (g.W.Sink.contents c.args.sink.now) (g.W.Sink.contents c.write_last.new.sink) output)
    (output_of c.in_ok-output.output, c.in_ok-output.ensures, c.in-Ok.ensures.ok)
