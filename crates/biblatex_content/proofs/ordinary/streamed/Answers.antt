use Rattle.std.proofs.Common.{◌≡◌, false, sym, ap, ◌∙◌}
use Rattle.std.specs.Str.{chars}
use Rattle.std.proofs.lemmas.Result.{err_from_is_err_and}
use Rattle.biblatex_tex.specs.TokenViews.{left, token_view}
use Rattle.biblatex_tex.proofs.TokenLexing.{tokens_shorten, gathered-err}
use Rattle.biblatex_content.specs.Ordinary.{is_dollar, begun}
use Rattle.biblatex_content.proofs.OrdinaryRuns.{runs_fail}
use Rattle.biblatex_content.proofs.OrdinaryStreams.{streams_begin, streams_more, streams_end, gives_whole}
use Rattle.biblatex_content.proofs.ordinary.streamed.Goals as goal

pub loop-reading-init : goal.loop-reading-init
loop-reading-init c = streams_begin _ _ _ c.new-lexer.ensures (c.new-reading.ensures ∙ ap begun c.new.ensures.joined)

pub returns-in_err-token : goal.returns-in_err-token
returns-in_err-token c =
    let p = err_from_is_err_and c.from_residual.result c.from_residual.ensures.1 in
    rw (p.1, p.2)
    (runs_fail c.in_err-token.field-0.0 (chars c.args.piece.now)
    (sym c.loop-reading.invariant.parts ∙ gathered-err c.loop-reading.invariant.tokens (left c.loop-reading.lexer) c.in_err-token.field-0.0 c.in_err-token.ensures))

pub loop-reading-smaller : goal.loop-reading-smaller
loop-reading-smaller c =
    let e = rw c.in-Some.is at c.in_ok-token.ensures in
    tokens_shorten (left c.loop-reading.lexer) (left c.next_token.new.self) (token_view c.in-Some.token) e

pub loop-reading-preserved : goal.loop-reading-preserved
loop-reading-preserved c =
    let e = rw c.in-Some.is at c.in_ok-token.ensures in
    let other : is_dollar (token_view c.in-Some.token) ≡ false = sym c.is_dollar-is_paired.ensures ∙ c.if-is_paired.false in
    streams_more _ _ _ _ _ (token_view c.in-Some.token) c.loop-reading.invariant e other (c.in_ok-is_refused.ensures c.if-is_refused.false)

pub returns : goal.returns
returns c =
    let e = rw c.in_default.is at c.in_ok-token.ensures in
    gives_whole c.whole.result _ _ (streams_end _ _ (left c.next_token.new.self) _ c.loop-reading.invariant e) c.whole.ensures
