use Rattle.std.proofs.Common.{sym, ◌∙◌}
use Rattle.std.specs.Global.{Global}
use Rattle.std.specs.Prelude.{Vec}
use Rattle.std.specs.Str.{chars}
use Rattle.std.proofs.lemmas.Result.{err_from_is_err_and}
use Rattle.biblatex_tex.specs.TokenViews.{left, token_view, tokens_view}
use Rattle.std.proofs.lemmas.List.{map-append}
use Rattle.biblatex_tex.specs.declared.token.Token as code
use Rattle.biblatex_tex.proofs.TokenPairing.{tokens_of-fails}
use Rattle.biblatex_tex.proofs.TokenLexing.{tokens_shorten, gathered-some, gathered-end, gathered-err}
use Rattle.biblatex_tex.proofs.token.written_tokens.Goals as goal

pub returns-in_err-token : goal.returns-in_err-token
returns-in_err-token c =
    let p = err_from_is_err_and c.from_residual-in_err-token.result c.from_residual-in_err-token.ensures.1 in
    rw (p.1, p.2)
    (tokens_of-fails (λ (v : Vec code.Token Global). tokens_view v.items) c.in_err-token.field-0.0 (chars c.args.text.now)
    (sym c.loop-tokens.invariant ∙ gathered-err (tokens_view c.loop-tokens.tokens.items) (left c.loop-tokens.lexer) c.in_err-token.field-0.0 c.in_err-token.ensures))

pub loop-tokens-smaller : goal.loop-tokens-smaller
loop-tokens-smaller c =
    let e = rw c.in-Some.is at c.in_ok-token.ensures in
    tokens_shorten (left c.loop-tokens.lexer) (left c.next_token.new.self) (token_view c.in-Some.token) e

pub loop-tokens-preserved : goal.loop-tokens-preserved
loop-tokens-preserved c =
    let e = rw c.in-Some.is at c.in_ok-token.ensures in
    rw (c.in_ok-push.ensures.items, map-append)
    (gathered-some (tokens_view c.loop-tokens.tokens.items) (left c.loop-tokens.lexer) (left c.next_token.new.self) (token_view c.in-Some.token) e ∙ c.loop-tokens.invariant)

pub returns : goal.returns
returns c =
    let e = rw c.in_default.is at c.in_ok-token.ensures in
    sym c.loop-tokens.invariant ∙ gathered-end (tokens_view c.loop-tokens.tokens.items) (left c.loop-tokens.lexer) (left c.next_token.new.self) e
