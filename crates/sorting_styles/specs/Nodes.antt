-- Nodes as they print for sorting.
use Rattle.std.specs.Prelude.{None}
use Rattle.std.specs.Option.{option_map}
use Rattle.rendering_style.specs.Options.{NameOptions}
use Rattle.rendering_style.specs.Nodes.{Leaf, text, number, label, date, NameLook, NamesNode, Node, Nodes, Branches, leaf, call, opened, names, choose, group, no_nodes, node, otherwise, branch}
use Rattle.rendering_style.specs.Views.{Branch}
use Rattle.sorting_styles.specs.Dates.{sorting_date}

-- options without a word before the last name
abbrev pub without_and : NameOptions → NameOptions
without_and o = record o { and_term = None }

-- single names without such a word
abbrev pub sorting_name : NameLook → NameLook
sorting_name n = record n { options = without_and n.options }

-- names have no label
abbrev pub sorting_names : NamesNode → NamesNode
sorting_names n = record n { name = option_map sorting_name n.name; label = None }

-- a node without others: dates alone print otherwise
abbrev pub sorting_leaf : Leaf → Leaf
sorting_leaf (text source look) = text source look
sorting_leaf (number n) = number n
sorting_leaf (label v l) = label v l
sorting_leaf (date d) = date (sorting_date d)

abbrev mutual
  -- a node, with all that are in it
  pub sorting_node : Node → Node
  sorting_node (leaf l) = leaf (sorting_leaf l)
  sorting_node (call name look) = call name look
  sorting_node (opened look xs) = opened look (sorting_nodes xs)
  sorting_node (names h xs) = names (sorting_names h) (sorting_nodes xs)
  sorting_node (choose bs) = choose (sorting_branches bs)
  sorting_node (group g xs) = group g (sorting_nodes xs)

  -- nodes one after the other
  pub sorting_nodes : Nodes → Nodes
  sorting_nodes no_nodes = no_nodes
  sorting_nodes (node x xs) = node (sorting_node x) (sorting_nodes xs)

  -- branches, and the nodes that stand where no condition is met
  pub sorting_branches : Branches → Branches
  sorting_branches (otherwise xs) = otherwise (sorting_nodes xs)
  sorting_branches (branch c xs bs) =
      branch c (sorting_nodes xs) (sorting_branches bs)

-- one branch
abbrev pub sorting_branch : Branch → Branch
sorting_branch b = (b.0, sorting_nodes b.1)
