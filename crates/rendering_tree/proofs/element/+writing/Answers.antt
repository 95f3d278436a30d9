use Rattle.std.proofs.Common.{◌≡◌, ◌+◌, List, ◌++◌, drop, sym, subst}
use Rattle.rendering_output.specs.Writing.{Tag, begun, ended, WritesTags}
use Rattle.rendering_output.proofs.WritingTags.{writes_more_tags, divided-parts}
use Rattle.rendering_tree.specs.Views.{child_view, children_view, tree_view}
use Rattle.rendering_tree.specs.Writing.{tags, tags_in}
use Rattle.rendering_tree.specs.declared.element.ElemChild.{ElemChild}
use Rattle.rendering_tree.proofs.WritingTaken.{tags-more}
use Rattle.rendering_tree.proofs.element.+writing.Goals as goal

pub Elem::push_to-returns : goal.Elem::push_to-returns
Elem::push_to-returns g t c =
    let took = g.T.TextTarget.takes in
    let format = c.args.format in
    let display = c.args.self.now.display in
    let inside = tags (tree_view c.args.self.now.children) in
    let last = writes_more_tags took format _ inside _ (ended display) _ c.push_to.ensures c.push_end.ensures in
    let whole = writes_more_tags took format _ (begun display) _ (inside ++ ended display) _ c.push_start.ensures last in
    subst (λ (ts : List Tag). WritesTags took format c.args.target.now ts c.push_end.new.target) (divided-parts display inside) whole

pub ElemChildren::push_to-loop-part-preserved : goal.ElemChildren::push_to-loop-part-preserved
ElemChildren::push_to-loop-part-preserved g t c = λ u written.
    let took = g.T.TextTarget.takes in
    let format = c.args.format in
    let i = c.loop-part.part-index in
    let x = c.part-item.result in
    let more = tags (children_view (drop (i + 1) c.args.self.now.0.items)) in
    let parts = tags-more c.deref-part-items.result.now i x x c.loop-part-test.true c.part-item.is in
    let here = subst (λ (xs : List ElemChild). tags (children_view (drop i xs)) ≡ tags_in (child_view x) ++ tags (children_view (drop (i + 1) xs))) c.deref-part-items.ensures.value parts in
    c.loop-part.invariant u
    (subst (λ (ts : List Tag). WritesTags took format c.loop-part.target ts u) (sym here)
    (writes_more_tags took format c.loop-part.target (tags_in (child_view x)) c.push_to.new.target more u c.push_to.ensures written))
