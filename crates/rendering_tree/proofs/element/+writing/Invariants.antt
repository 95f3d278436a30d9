use Rattle.std.proofs.Common.{drop}
use Rattle.rendering_output.specs.Writing.{WritesTags}
use Rattle.rendering_tree.specs.Views.{children_view, tree_view}
use Rattle.rendering_tree.specs.Writing.{tags}
use Rattle.rendering_tree.proofs.element.+writing.Given as goal

abbrev pub invariant-ElemChildren::push_to-loop-part : goal.invariant-ElemChildren::push_to-loop-part
invariant-ElemChildren::push_to-loop-part g l =
    (u : g.row.T.Denot) → WritesTags g.T.TextTarget.takes l.format l.target (tags (children_view (drop l.part-index l.self.0.items))) u
    → WritesTags g.T.TextTarget.takes l.format l.fn.target (tags (tree_view l.self)) u
