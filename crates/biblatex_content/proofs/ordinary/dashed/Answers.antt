use Rattle.std.proofs.Common.{◌≡◌, true, sym, ap, ◌∙◌}
use Rattle.std.specs.Str.{chars}
use Rattle.std.proofs.lemmas.Bool.{not-false}
use Rattle.std.proofs.lemmas.Result.{err_from_is_err_and}
use Rattle.biblatex_tex.specs.TokenViews.{left, token_view}
use Rattle.biblatex_tex.proofs.TokenLexing.{tokens_shorten, gathered-err}
use Rattle.biblatex_content.specs.Ordinary.{is_run}
use Rattle.biblatex_content.proofs.OrdinaryRuns.{runs_begin, runs_more, runs_end, runs_fail}
use Rattle.biblatex_content.proofs.ordinary.dashed.Goals as goal

pub loop-text-init : goal.loop-text-init
loop-text-init c = runs_begin _ _ _ c.new-lexer.ensures (ap chars c.in_ok-make_room.ensures ∙ c.empty_text-text.ensures.characters)

pub returns-in_err-token : goal.returns-in_err-token
returns-in_err-token c =
    let p = err_from_is_err_and c.from_residual-in_err-token.result c.from_residual-in_err-token.ensures.1 in
    rw (p.1, p.2)
    (runs_fail c.in_err-token.field-0.0 (chars c.args.piece.now)
    (sym c.loop-text.invariant.parts ∙ gathered-err c.loop-text.invariant.runs (left c.loop-text.lexer) c.in_err-token.field-0.0 c.in_err-token.ensures))

pub loop-text-smaller : goal.loop-text-smaller
loop-text-smaller c =
    let e = rw c.in-Some.is at c.in_ok-token.ensures in
    tokens_shorten (left c.loop-text.lexer) (left c.next_token.new.self) (token_view c.in-Some.token) e

pub loop-text-preserved : goal.loop-text-preserved
loop-text-preserved c =
    let e = rw c.in-Some.is at c.in_ok-token.ensures in
    let run : is_run (token_view c.in-Some.token) ≡ true = not-false (is_run (token_view c.in-Some.token)) (sym c.in_ok-is_other.ensures.other ∙ c.if-is_other.false) in
    runs_more _ _ _ _ _ (token_view c.in-Some.token) c.loop-text.invariant e run (c.in_ok-is_other.ensures.text c.if-is_other.false)

pub returns : goal.returns
returns c =
    let e = rw c.in_default.is at c.in_ok-token.ensures in
    runs_end _ _ (left c.next_token.new.self) _ c.loop-text.invariant e
