use Rattle.std.proofs.Common.{◌≡◌, ℕ, List, drop}
use Rattle.xml_tree.specs.Trees.{content_of}
use Rattle.xml_tree.specs.Views.{children_of}
use Rattle.csl_nodes.specs.Names.{label_leads}
use Rattle.csl_nodes.proofs.names.label_leads.Given as goal

abbrev pub invariant-loop-child : goal.invariant-loop-child
invariant-loop-child l = (t : List ℕ) → label_leads (content_of (children_of (drop l.child-index l.children)) t) ≡ label_leads (content_of (children_of l.children) t)
