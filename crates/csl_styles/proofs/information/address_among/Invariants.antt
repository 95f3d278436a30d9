use Rattle.std.proofs.Common.{◌≡◌, ℕ, List, drop}
use Rattle.xml_tree.specs.Trees.{content_of}
use Rattle.xml_tree.specs.Views.{children_of}
use Rattle.csl_styles.specs.Information.{address_in}
use Rattle.csl_styles.proofs.information.address_among.Given as goal

abbrev pub invariant-loop-child : goal.invariant-loop-child
invariant-loop-child l = (t : List ℕ) → address_in (content_of (children_of (drop l.child-index l.children)) t) ≡ address_in (content_of (children_of l.children) t)
