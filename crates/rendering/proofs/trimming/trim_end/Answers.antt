use Rattle.std.proofs.Common.{ap, ◌∙◌}
use Rattle.std.proofs.lemmas.Result.{IfOk-weaker}
use Rattle.rendering_tree.specs.Trees.{simplified, tree_of}
use Rattle.rendering_tree.proofs.ViewsLevels.{tree_rolled}
use Rattle.rendering.proofs.trimming.trim_end.Goals as goal

pub returns : goal.returns
returns c =
    IfOk-weaker c.simplify_children.result _ _
    (λ t known. known ∙ ap simplified (tree_rolled (record { 0 = c.trim.new.parts })) ∙ ap tree_of c.trim.ensures.cut)
    c.simplify_children.ensures
