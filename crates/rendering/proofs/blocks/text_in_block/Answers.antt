use Rattle.std.proofs.Common.{◌≡◌, List, length, ap, sym, ◌∙◌, arith, Vec, Global}
use Rattle.std.proofs.lemmas.Result.{IfOk-weaker}
use Rattle.rendering_tree.specs.Views.{child_view}
use Rattle.rendering_tree.specs.declared.element.ElemChild.{ElemChild}
use Rattle.rendering_tree.proofs.ViewsLevels.{tree_rolled}
use Rattle.rendering.specs.Blocks.{then_child}
use Rattle.rendering.proofs.LastBlocks.{last_put, none_put}
use Rattle.rendering.proofs.blocks.text_in_block.Goals as goal

abbrev items : Vec ElemChild Global → List ElemChild
items v = v.items

pub returns-in-Some : goal.returns-in-Some
returns-in-Some c =
    IfOk-weaker c.with_child.result _ _
    (λ t known.
    known
    ∙ ap (λ xs. then_child xs (child_view c.in-Some.last)) (tree_rolled (record { 0 = c.pop.new.self }))
    ∙ last_put c.args.tree.0.items c.pop.new.self.items c.in-Some.last (ap items (sym c.into_vec-parts.ensures) ∙ c.in-Some.ensures.items))
    c.with_child.ensures

pub returns-in-None : goal.returns-in-None
returns-in-None c =
    let none : length c.pop.new.self.items ≡ 0 = omega (arith, c.in-None.ensures.cases.1, c.pop.new.self.ok.0) in
    tree_rolled (record { 0 = c.pop.new.self })
    ∙ none_put c.args.tree.0.items c.pop.new.self.items (ap items (sym c.into_vec-parts.ensures) ∙ c.in-None.ensures.items) none
