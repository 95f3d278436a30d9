use Rattle.std.proofs.Common.{true≢false, None, sym, subst, ◌∙◌}
use Rattle.rendering_style.specs.Opening.{IsAnswer}
use Rattle.rendering_style.specs.Styles.{Style}
use Rattle.cite_uses.proofs.Accepted.{titles_accepted}
use Rattle.cite_uses.proofs.style.titles.Goals as goal

pub unreachable-requires : goal.unreachable-requires
unreachable-requires c =
    let accepted = subst (λ (s : Style). IsAnswer s None) (sym c.in_ok-parts.ensures) titles_accepted in
    let refused = rw c.in-Err-MacroRing.field-0-is at c.in-Err-MacroRing.ensures.answer in
    accepted.0 refused.0 refused.1.ring

pub unreachable-requires-in-Err-TooDeep : goal.unreachable-requires-in-Err-TooDeep
unreachable-requires-in-Err-TooDeep c =
    let accepted = subst (λ (s : Style). IsAnswer s None) (sym c.in_ok-parts.ensures) titles_accepted in
    let refused = rw c.in-Err-TooDeep.field-0-is at c.in-Err-TooDeep.ensures.answer in
    true≢false (sym accepted.1 ∙ refused.1)
