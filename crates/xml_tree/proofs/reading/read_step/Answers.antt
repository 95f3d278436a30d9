use Rattle.std.proofs.Common.{ℕ, List, Option, Result, refl, sym, subst}
use Rattle.std.proofs.lemmas.Result.{err_from_is_err_and}
use Rattle.texts.specs.Views.{left}
use Rattle.xml_text.specs.Views.{placed_view, token_view}
use Rattle.xml_tree.specs.Building.{State}
use Rattle.xml_tree.specs.Values.{Refusal}
use Rattle.xml_tree.specs.Views.{refusal_of, state_view, Steps}
use Rattle.xml_tree.proofs.Read.{stepped_some, stepped_none, stepped_fails}
use Rattle.xml_tree.proofs.reading.read_step.Goals as goal

pub returns-in_err-token : goal.returns-in_err-token
returns-in_err-token c =
    let p = err_from_is_err_and c.from_residual.result c.from_residual.ensures.1 in
    rw (p.1, p.2) (stepped_fails (state_view c.args.builder.now) (left c.args.reader.now) (refusal_of c.in_err-token.field-0.0) c.in_err-token.ensures)

pub returns-in-Some : goal.returns-in-Some
returns-in-Some c =
    let s = state_view c.args.builder.now in
    let rest = left c.read_token.new.reader in
    let read = rw c.in-Some.is at c.in_ok-token.ensures in
    subst (λ (r : Result (Option State × List ℕ) Refusal). Steps c.put_token.result s (state_view c.put_token.new.builder) rest r)
    (sym (stepped_some s (left c.args.reader.now) rest (placed_view token_view c.in-Some.token) read)) (c.put_token.ensures rest)

pub returns-in-None : goal.returns-in-None
returns-in-None c =
    let read = rw c.in-None.is at c.in_ok-token.ensures in
    (stepped_none (state_view c.args.builder.now) (left c.args.reader.now) (left c.read_token.new.reader) read, refl)
