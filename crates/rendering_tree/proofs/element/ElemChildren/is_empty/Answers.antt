use Rattle.std.proofs.Common.{◌≡◌, ◌==◌, length, rules, ap, ◌∙◌}
use Rattle.std.specs.Vec.{vec_len}
use Rattle.rendering_tree.proofs.SimplifySteps.{none_in}
use Rattle.rendering_tree.proofs.element.ElemChildren.is_empty.Goals as goal

pub returns : goal.returns
returns c =
    let n : vec_len c.args.self.now.0 ≡ length c.args.self.now.0.items = search rules in
    c.is_empty.ensures ∙ ap (λ k. k == 0) n ∙ none_in c.args.self.now.0.items
