-- Year suffixes in the branches of a choose.
use Rattle.std.proofs.Common.{◌≡◌, ℕ, ◌-◌, ◌≢◌, Bool, true, ◌||◌, List, map, Vec, sym, ap, ◌∙◌}
use Rattle.std.specs.Global.{Global}
use Rattle.rendering_style.specs.Nodes.{Nodes}
use Rattle.rendering_style.specs.Styles.{Macro}
use Rattle.rendering_style.specs.Opening.{open_node, each_node, each_branch}
use Rattle.rendering_style.specs.Views.{node_view, nodes_view, branch_view, branches_of}
use Rattle.rendering_style.specs.declared.node.Node.{Node}
use Rattle.rendering_style.specs.declared.node.Node.TheVariants as variants
use Rattle.rendering_style.specs.declared.node.ChooseBranch.{ChooseBranch}
use Rattle.rendering_nodes.specs.Named.{has_suffix, has_suffix_in, has_suffix_in_branches}
use Rattle.rendering_nodes.proofs.OpenedSteps.{open_choose}

-- one of the branches has them
pub branches_have : (n : ℕ) (ms : List Macro) (bs : Vec ChooseBranch Global) (xs : Vec Node Global) (x : Node) (cs : List ChooseBranch) (b : Bool)
    → n ≢ 0 → x ≡ variants.Choose bs xs → cs ≡ bs.items
    → ((ys : Nodes) → has_suffix_in_branches (each_branch (open_node (n - 1) ms) (branches_of (map branch_view cs) ys)) ≡ (b || has_suffix (each_node (open_node (n - 1) ms) ys)))
    → b ≡ true → b ≡ has_suffix_in (open_node n ms (node_view x))
branches_have n ms bs xs x cs b some is same h e =
    let f = open_node (n - 1) ms in
    let rest = nodes_view xs.items in
    e ∙ sym
    (ap (λ y. has_suffix_in (open_node n ms (node_view y))) is
    ∙ ap has_suffix_in (open_choose n ms bs xs some)
    ∙ ap (λ ds. has_suffix_in_branches (each_branch f (branches_of (map branch_view ds) rest))) (sym same)
    ∙ h rest
    ∙ ap (λ c. c || has_suffix (each_node f rest)) e)
