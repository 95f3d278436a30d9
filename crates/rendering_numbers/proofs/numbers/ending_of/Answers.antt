use Rattle.std.proofs.Common.{◌≡◌, ℕ, List, Some, true, drop, map, sym, subst, ap, ◌∙◌, arith}
use Rattle.std.specs.Prelude.{◌==◌}
use Rattle.std.specs.Map.{lookup}
use Rattle.std.specs.Str.{chars}
use Rattle.std.proofs.lemmas.Bool.Decides.{nat_tests}
use Rattle.rendering_locale.specs.Views.{ending_view}
use Rattle.rendering_locale.specs.declared.locale.OrdinalEnding.{OrdinalEnding}
use Rattle.rendering_numbers.specs.Numbers.{numbered}
use Rattle.rendering_numbers.proofs.NumbersEndings.{lookup-found}
use Rattle.rendering_numbers.proofs.numbers.ending_of.Goals as goal

pub returns-then-from-number : goal.returns-then-from-number
returns-then-from-number c =
    let i = c.loop-ending.ending-index in
    let ending = c.ending-item.result in
    let same : (ending.number == c.args.number) ≡ true = grind (arith, nat_tests) in
    ap (λ (s : List ℕ). Some (chars s)) c.as_str.ensures.value
    ∙ sym (subst (λ (xs : List OrdinalEnding). lookup (λ k. k == c.args.number) (map numbered (map ending_view (drop i xs))) ≡ Some (numbered (ending_view ending)).1) c.deref-ending-items.ensures.value
    (lookup-found ending_view numbered (λ k. k == c.args.number) c.deref-ending-items.result.now i ending c.loop-ending-test.true c.ending-item.is same))
    ∙ c.loop-ending.invariant
