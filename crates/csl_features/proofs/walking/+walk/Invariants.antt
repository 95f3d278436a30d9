use Rattle.std.proofs.Common.{◌≡◌, ◌++◌, ℕ, ◌+◌, ◌*◌, List, drop}
use Rattle.xml_tree.specs.Trees.{content_of}
use Rattle.xml_tree.specs.Views.{element_view, children_of}
use Rattle.csl_locales.specs.Called.{elements_of}
use Rattle.csl_locales.proofs.Weights.{weight, children_weight}
use Rattle.csl_features.specs.Features.{elements_in}
use Rattle.csl_features.proofs.walking.+walk.Given as goal

abbrev pub invariant-push_elements_in-loop-child : goal.invariant-push_elements_in-loop-child
invariant-push_elements_in-loop-child l =
    (t : List ℕ) → elements_of l.found.items ++ elements_in (content_of (children_of (drop l.child-index l.children)) t)
    ≡ elements_of l.initial.found.items ++ elements_in (content_of (children_of l.children) t)

abbrev pub decreases-push_elements : goal.decreases-push_elements
decreases-push_elements l = 2 * weight (element_view l.element.now)

abbrev pub decreases-push_elements_in : goal.decreases-push_elements_in
decreases-push_elements_in l = 2 * children_weight l.children.now + 1
