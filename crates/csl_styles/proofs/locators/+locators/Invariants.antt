use Rattle.std.proofs.Common.{◌≡◌, ℕ, ◌+◌, ◌*◌, List, drop}
use Rattle.xml_tree.specs.Trees.{content_of}
use Rattle.xml_tree.specs.Views.{element_view, children_of}
use Rattle.csl_locales.proofs.Weights.{weight, children_weight}
use Rattle.csl_styles.specs.Locators.{asked_in}
use Rattle.csl_styles.proofs.locators.+locators.Given as goal

abbrev pub invariant-asked_in-loop-child : goal.invariant-asked_in-loop-child
invariant-asked_in-loop-child l = (t : List ℕ) → asked_in (content_of (children_of (drop l.child-index l.children)) t) ≡ asked_in (content_of (children_of l.children) t)

abbrev pub decreases-asks_locator : goal.decreases-asks_locator
decreases-asks_locator l = 2 * weight (element_view l.element.now)

abbrev pub decreases-asked_in : goal.decreases-asked_in
decreases-asked_in l = 2 * children_weight l.children.now + 1
