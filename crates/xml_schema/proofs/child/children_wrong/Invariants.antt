use Rattle.std.proofs.Common.{◌≡◌, ℕ, List, drop}
use Rattle.std.specs.List.{filter_map}
use Rattle.xml_tree.specs.Trees.{content_of}
use Rattle.xml_tree.specs.Views.{children_of}
use Rattle.xml_schema.specs.Faults.{child_wrong, first_of}
use Rattle.xml_schema.proofs.child.children_wrong.Given as goal

abbrev pub invariant-loop-rule : goal.invariant-loop-rule
invariant-loop-rule l =
    (t : List ℕ) → first_of (filter_map (child_wrong l.schema (content_of (children_of l.children) t)) (drop l.rule-index l.rules)) ≡ first_of (filter_map (child_wrong l.schema (content_of (children_of l.children) t)) l.rules)
