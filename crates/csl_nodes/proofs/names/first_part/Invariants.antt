use Rattle.std.proofs.Common.{◌≡◌, ℕ, List, drop}
use Rattle.xml_tree.specs.Trees.{content_of}
use Rattle.xml_tree.specs.Views.{children_of}
use Rattle.csl_nodes.specs.Names.{first_part}
use Rattle.csl_nodes.proofs.names.first_part.Given as goal

abbrev pub invariant-loop-child : goal.invariant-loop-child
invariant-loop-child l = (t : List ℕ) → first_part l.word (content_of (children_of (drop l.child-index l.children)) t) ≡ first_part l.word (content_of (children_of l.children) t)
