-- What the elements of CSL that print something mean, as nodes of a style. The first argument is the words of terms that no list has.
use Rattle.std.specs.Prelude.{ℕ, Bool, ◌||◌, List, [], ◌∷◌, if◌then◌else◌, Option, Some, None, codes}
use Rattle.std.specs.List.{cons_option}
use Rattle.laws.specs.Text.{text}
use Rattle.xml_tree.specs.Trees.{FullName, Element, Tagged, Content, Last, Next}
use Rattle.xml_schema.specs.Faults.{name_of}
use Rattle.rendering_style.specs.Nodes.{GroupNode, plain_look, Node, names, choose, group, nodes_of}
use Rattle.rendering_style.specs.Styles.{Macro}
use Rattle.rendering_style.specs.Views.{Branch, branches_of}
use Rattle.csl_words.specs.Elements.{is_called, named_by, content_in}
use Rattle.csl_words.specs.Looking.{table, text_of}
use Rattle.csl_words.specs.Printing.{printed}
use Rattle.csl_nodes.specs.Looks.{look}
use Rattle.csl_nodes.specs.Leaves.{text_node, number_node, label_node, date_node}
use Rattle.csl_nodes.specs.Names.{names_node}
use Rattle.csl_nodes.specs.Conditions.{condition}
use Rattle.csl_nodes.specs.declared.nodes.Printing.{Printing}
use Rattle.csl_nodes.specs.declared.nodes.Printing.TheVariants as kinds
use Rattle.csl_nodes.specs.declared.nodes.TheConstants.{PRINTING}

-- a group's look, and what stands between its children
abbrev pub group_node : Element → GroupNode
group_node e = record { delimiter = printed (codes "delimiter") e; look = look e }

-- the node of an element of that kind, where the nodes in it, those of its substitute, its branches and the nodes of its `else` are these
abbrev pub node_by : List (List ℕ) → Option Printing → Element → List Node → List Node → List Branch → List Node → Option Node
node_by unlisted None e inside substitute branches other = None
node_by unlisted (Some kinds.Text) e inside substitute branches other = text_node unlisted e
node_by unlisted (Some kinds.Number) e inside substitute branches other = number_node e
node_by unlisted (Some kinds.Label) e inside substitute branches other = label_node e
node_by unlisted (Some kinds.Date) e inside substitute branches other = date_node e
node_by unlisted (Some kinds.Names) e inside substitute branches other = Some (names (names_node e) (nodes_of substitute))
node_by unlisted (Some kinds.Choose) e inside substitute branches other = Some (choose (branches_of branches (nodes_of other)))
node_by unlisted (Some kinds.Group) e inside substitute branches other = Some (group (group_node e) (nodes_of inside))

-- an element of that name is a branch with a condition
abbrev pub is_branch : FullName → Bool
is_branch n = is_called (codes "if") n || is_called (codes "else-if") n

abbrev mutual
  -- the node of an element, if it is one that prints something
  pub node_of : List (List ℕ) → Element → Option Node
  node_of unlisted (Tagged left name attributes content) =
      node_by unlisted (named_by (table PRINTING.now) name) (Tagged left name attributes content) (nodes_in unlisted content) (nodes_under unlisted (codes "substitute") content)
      (branches_in unlisted content) (nodes_under unlisted (codes "else") content)

  -- the nodes of elements, in their order
  pub nodes_in : List (List ℕ) → Content → List Node
  nodes_in unlisted (Last t) = []
  nodes_in unlisted (Next t e c) = cons_option (node_of unlisted e) (nodes_in unlisted c)

  -- the nodes in an element
  pub nodes_inside : List (List ℕ) → Element → List Node
  nodes_inside unlisted (Tagged left name attributes content) = nodes_in unlisted content

  -- the nodes in the first element of that name
  pub nodes_under : List (List ℕ) → List ℕ → Content → List Node
  nodes_under unlisted part (Last t) = []
  nodes_under unlisted part (Next t e c) = if is_called part (name_of e) then nodes_inside unlisted e else nodes_under unlisted part c

  -- the branch that an element is, if it is one
  pub branch_of : List (List ℕ) → Element → Option Branch
  branch_of unlisted (Tagged left name attributes content) = if is_branch name then Some (condition (Tagged left name attributes content), nodes_of (nodes_in unlisted content)) else None

  -- the branches of a choose, in their order
  pub branches_in : List (List ℕ) → Content → List Branch
  branches_in unlisted (Last t) = []
  branches_in unlisted (Next t e c) = cons_option (branch_of unlisted e) (branches_in unlisted c)

-- the nodes of names, of a choose and of a group
abbrev pub names_whole : List (List ℕ) → Element → Node
names_whole unlisted e = names (names_node e) (nodes_of (nodes_under unlisted (codes "substitute") (content_in e)))

abbrev pub choose_whole : List (List ℕ) → Element → Node
choose_whole unlisted e = choose (branches_of (branches_in unlisted (content_in e)) (nodes_of (nodes_under unlisted (codes "else") (content_in e))))

abbrev pub group_whole : List (List ℕ) → Element → Node
group_whole unlisted e = group (group_node e) (nodes_of (nodes_in unlisted (content_in e)))

-- a group for which nothing is specified
abbrev pub plain_group : GroupNode
plain_group = record { delimiter = None; look = plain_look }

-- A macro by its name. All that it prints stands in one group, so that it prints nothing where it calls variables and none has an answer.
abbrev pub macro_of : List (List ℕ) → Element → Macro
macro_of unlisted e = record { name = text (text_of (codes "name") e); nodes = group plain_group (nodes_of (nodes_in unlisted (content_in e))) ∷ [] }
