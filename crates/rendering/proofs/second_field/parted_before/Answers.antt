use Rattle.std.proofs.Common.{ap, ◌++◌, ◌∙◌}
use Rattle.std.proofs.lemmas.Result.{IfOk-weaker}
use Rattle.rendering_tree.specs.Trees.{flat, tree_of}
use Rattle.rendering_tree.specs.Views.{tree_view}
use Rattle.rendering.proofs.second_field.parted_before.Goals as goal

pub returns : goal.returns
returns c = λ rule is.
    IfOk-weaker c.simplify_children.result _ _
    (λ t known. known ∙ ap tree_of (c.in_ok-both.ensures ∙ ap (λ ts. flat (tree_view c.args.others) ++ ts) (c.in_ok-field.ensures rule is)))
    c.simplify_children.ensures
