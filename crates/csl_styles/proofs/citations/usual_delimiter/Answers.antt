use Rattle.std.proofs.Common.{◌≡◌, ℕ, Bool, true, cond, List, Some, None, sym, ap, ◌∙◌}
use Rattle.csl_styles.proofs.Literals.{comma}
use Rattle.csl_styles.proofs.citations.usual_delimiter.Goals as goal

said : (c : Bool) (s t : List ℕ) → true ≡ c → s ≡ t → Some s ≡ cond c (Some t) None
said c s t looked is = ap (λ (u : List ℕ). Some u) is ∙ ap (λ (d : Bool). cond d (Some t) None) looked

pub returns : goal.returns
returns c = said _ _ _ (sym c.if-not-is_by_year.false ∙ c.is_by_year.ensures) (c.in_ok-comma.ensures.characters ∙ comma)
