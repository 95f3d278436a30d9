use Rattle.std.proofs.Common.{◌≡◌, ℕ, List, drop}
use Rattle.xml_tree.specs.Trees.{content_of}
use Rattle.xml_tree.specs.Views.{children_of}
use Rattle.cite_csl_styles.specs.Sheets.{link_in}
use Rattle.cite_csl_styles.proofs.parents.link_among.Given as goal

abbrev pub invariant-loop-child : goal.invariant-loop-child
invariant-loop-child l = (t : List ℕ) → link_in (content_of (children_of (drop l.child-index l.children)) t) ≡ link_in (content_of (children_of l.children) t)
