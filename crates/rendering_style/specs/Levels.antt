-- How many levels nodes have, by the levels of macros.
use Rattle.std.specs.Prelude.{ℕ, suc, max, List}
use Rattle.rendering_style.specs.Nodes.{Node, Nodes, Branches, leaf, call, opened, names, choose, group, no_nodes, node, otherwise, branch}

abbrev mutual
  -- the levels below a node, by those of the macro of each name
  pub levels_below : (List ℕ → ℕ) → Node → ℕ
  levels_below height (leaf l) = 0
  levels_below height (call name look) = height name
  levels_below height (opened look xs) = levels height xs
  levels_below height (names h xs) = levels height xs
  levels_below height (choose bs) = branch_levels height bs
  levels_below height (group g xs) = levels height xs

  -- the levels of nodes: one more than the most that are below one of them
  pub levels : (List ℕ → ℕ) → Nodes → ℕ
  levels height no_nodes = 0
  levels height (node x xs) = max (suc (levels_below height x)) (levels height xs)

  -- the levels of nodes in branches
  pub branch_levels : (List ℕ → ℕ) → Branches → ℕ
  branch_levels height (otherwise xs) = levels height xs
  branch_levels height (branch c xs bs) = max (levels height xs) (branch_levels height bs)
