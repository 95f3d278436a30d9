use Rattle.std.proofs.Common.{Some, Ok, ap}
use Rattle.std.specs.Str.{chars}
use Rattle.std.proofs.lemmas.Result.{err_from_is_err_and}
use Rattle.xml_text.specs.Views.{token_view}
use Rattle.xml_tree.specs.Building.{step, and_rest}
use Rattle.xml_tree.specs.Views.{refusal_of, state_view}
use Rattle.xml_tree.proofs.Folded.{ends_bind}
use Rattle.xml_tree.proofs.reading.put_token.Goals as goal

pub returns : goal.returns
returns c rest = ap (and_rest rest) c.in_ok-step.ensures

pub returns-in_err-step : goal.returns-in_err-step
returns-in_err-step c rest =
    let p = err_from_is_err_and c.from_residual.result c.from_residual.ensures.1 in
    let read = step (state_view c.args.builder.now) (chars c.args.start.now) (token_view c.args.token) in
    rw (p.1, p.2) (ends_bind (refusal_of c.in_err-step.field-0.0) read (λ more. Ok (Some more, rest)) c.in_err-step.ensures)
