use Rattle.std.proofs.Common.{◌≡◌, ℕ, ◌+◌, ◌*◌, List, drop}
use Rattle.xml_tree.specs.Trees.{content_of}
use Rattle.xml_tree.specs.Views.{element_view, children_of}
use Rattle.xml_schema.specs.Faults.{first_of}
use Rattle.csl_locales.specs.Sets.{has_text}
use Rattle.csl_locales.proofs.Weights.{weight, children_weight}
use Rattle.csl_styles.specs.Faults.{calls_in}
use Rattle.csl_styles.proofs.faults.+calls.Given as goal

abbrev pub invariant-first_call_in-loop-child : goal.invariant-first_call_in-loop-child
invariant-first_call_in-loop-child l =
    (t : List ℕ) → first_of (calls_in (has_text l.known) (content_of (children_of (drop l.child-index l.children)) t)) ≡ first_of (calls_in (has_text l.known) (content_of (children_of l.children) t))

abbrev pub decreases-first_call : goal.decreases-first_call
decreases-first_call l = 2 * weight (element_view l.element.now)

abbrev pub decreases-first_call_in : goal.decreases-first_call_in
decreases-first_call_in l = 2 * children_weight l.children.now + 1
