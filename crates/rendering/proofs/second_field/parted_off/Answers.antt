use Rattle.std.proofs.Common.{ap, sym, ◌∙◌}
use Rattle.std.specs.Prelude.{if◌then◌else◌}
use Rattle.std.proofs.lemmas.Result.{IfOk-weaker}
use Rattle.laws.specs.Characters.{space}
use Rattle.rendering_tree.specs.Tokens.{with_letter_after}
use Rattle.rendering_tree.specs.Trees.{Elem, flat_child}
use Rattle.rendering_tree.specs.Views.{element_view}
use Rattle.rendering.proofs.second_field.parted_off.Goals as goal

pub returns-then-is_joined : goal.returns-then-is_joined
returns-then-is_joined c = λ rule is.
    let e = element_view c.args.field in
    let ts = flat_child (Elem e.display e.meta e.children) in
    ap (λ b. if b then ts else with_letter_after space ts) (sym c.if-is_joined.true ∙ is)

pub returns : goal.returns
returns c = λ rule is.
    let e = element_view c.args.field in
    let ts = flat_child (Elem e.display e.meta e.children) in
    IfOk-weaker c.spaced.result _ _ (λ f known. known ∙ ap (λ b. if b then ts else with_letter_after space ts) (sym c.if-is_joined.false ∙ is)) c.spaced.ensures
