use Rattle.std.proofs.Common.{◌≡◌, List, [], ◌∷◌, Ok, sym, ap, ◌∙◌, reverse}
use Rattle.std.specs.Global.{Global}
use Rattle.std.specs.Prelude.{Vec}
use Rattle.std.specs.Str.{chars}
use Rattle.std.proofs.lemmas.List.{nil_from_length, reverse-append}
use Rattle.std.proofs.lemmas.Result.{err_from_is_err_and}
use Rattle.biblatex_tex.specs.declared.token.Token as code
use Rattle.biblatex_content.specs.Ordinary.{steps, begun}
use Rattle.biblatex_content.specs.OrdinaryViews.{state_view}
use Rattle.biblatex_tex.specs.TokenViews.{token_view, tokens_view}
use Rattle.biblatex_content.specs.Views.{joined}
use Rattle.biblatex_content.proofs.OrdinaryPieces.{following-fails, following-stops, following-ends}
use Rattle.biblatex_content.proofs.joining.Joining.push_tokens.Goals as goal

pub returns-in_err-tokens : goal.returns-in_err-tokens
returns-in_err-tokens c =
    let p = err_from_is_err_and c.from_residual.result c.from_residual.ensures.1 in
    rw (p.1, p.2) (following-fails (λ (v : Vec code.Token Global). tokens_view (reverse v.items)) c.in_err-tokens.field-0.0 (joined c.args.self) (chars c.args.piece.now) c.in_err-tokens.ensures)

pub returns-in_err-step : goal.returns-in_err-step
returns-in_err-step c =
    let p = err_from_is_err_and c.from_residual-in_err-step.result c.from_residual-in_err-step.ensures.1 in
    let last : reverse c.loop-token.tokens.items ≡ c.in-Some.token ∷ reverse c.pop.new.self.items = ap reverse c.in-Some.ensures.items ∙ reverse-append c.pop.new.self.items (c.in-Some.token ∷ []) in
    let same : steps (token_view c.in-Some.token ∷ tokens_view (reverse c.pop.new.self.items)) (state_view c.loop-token.reading) ≡ steps (tokens_view (reverse c.in_ok-tokens.tokens.items)) (begun (joined c.args.self)) =
    ap (λ (ts : List code.Token). steps (tokens_view ts) (state_view c.loop-token.reading)) (sym last) ∙ c.loop-token.invariant in
    rw (p.1, p.2) (following-stops c.in_err-step.field-0.0 (joined c.args.self) (chars c.args.piece.now) _ _ (token_view c.in-Some.token) (state_view c.loop-token.reading) (state_view c.step.new.self) c.in_ok-tokens.ensures same c.in_err-step.ensures)

pub returns : goal.returns
returns c =
    let none : c.loop-token.tokens.items ≡ [] = let e = rw c.in_default.is at c.pop.ensures.cases in nil_from_length _ (sym c.loop-token.tokens.ok.0 ∙ e.0) in
    let same : Ok (state_view c.loop-token.reading) ≡ steps (tokens_view (reverse c.in_ok-tokens.tokens.items)) (begun (joined c.args.self)) =
    ap (λ (ts : List code.Token). steps (tokens_view (reverse ts)) (state_view c.loop-token.reading)) (sym none) ∙ c.loop-token.invariant in
    rw (following-ends (joined c.args.self) (chars c.args.piece.now) _ (state_view c.loop-token.reading) c.in_ok-tokens.ensures same) c.end.ensures
