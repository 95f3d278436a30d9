use Rattle.std.proofs.Common.{◌≡◌, [], sym, ◌∙◌, reverse}
use Rattle.std.specs.Global.{Global}
use Rattle.std.specs.Prelude.{Vec}
use Rattle.std.specs.Str.{chars}
use Rattle.biblatex_tex.specs.declared.token.Token as code
use Rattle.std.proofs.lemmas.Result.{err_from_is_err_and}
use Rattle.std.proofs.lemmas.List.{nil_from_length}
use Rattle.biblatex_tex.specs.TokenViews.{tokens_view}
use Rattle.biblatex_tex.proofs.TokenPairing.{GoesBack, goes_back-end, paired_of-fails, paired_of-ok}
use Rattle.biblatex_tex.proofs.token.paired_tokens.Goals as goal

pub returns-in_err-tokens : goal.returns-in_err-tokens
returns-in_err-tokens c =
    let p = err_from_is_err_and c.from_residual.result c.from_residual.ensures.1 in
    rw (p.1, p.2) (paired_of-fails (λ (v : Vec code.Token Global). tokens_view v.items) (λ (v : Vec code.Token Global). tokens_view (reverse v.items)) c.in_err-tokens.field-0.0 (chars c.args.text.now) c.in_err-tokens.ensures)

pub returns : goal.returns
returns c =
    let none : c.loop-token.tokens.items ≡ [] = let e = rw c.in_default.is at c.pop.ensures.cases in nil_from_length _ (sym c.loop-token.tokens.ok.0 ∙ e.0) in
    let back : GoesBack (tokens_view c.in_ok-tokens.tokens.items) [] (tokens_view (reverse c.loop-token.paired.items)) (reverse c.loop-token.dollars.groups.items) = rw none at c.loop-token.invariant in
    paired_of-ok (chars c.args.text.now) (tokens_view c.in_ok-tokens.tokens.items) (tokens_view (reverse c.loop-token.paired.items)) c.in_ok-tokens.ensures (goes_back-end _ _ _ back)
