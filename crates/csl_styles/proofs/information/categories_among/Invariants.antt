use Rattle.std.proofs.Common.{◌≡◌, ◌++◌, ℕ, List, drop}
use Rattle.xml_tree.specs.Trees.{content_of}
use Rattle.xml_tree.specs.Views.{children_of}
use Rattle.csl_styles.specs.Information.{categories_in}
use Rattle.csl_styles.proofs.information.categories_among.Given as goal

abbrev pub invariant-loop-child : goal.invariant-loop-child
invariant-loop-child l = (t : List ℕ) → l.categories.items ++ categories_in (content_of (children_of (drop l.child-index l.children)) t) ≡ categories_in (content_of (children_of l.children) t)
