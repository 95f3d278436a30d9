use Rattle.std.proofs.Common.{◌≡◌, drop}
use Rattle.std.specs.Str.{chars}
use Rattle.xml_schema.specs.Faults.{child_rule}
use Rattle.xml_schema.proofs.standing.child_rule.Given as goal

abbrev pub invariant-loop-child : goal.invariant-loop-child
invariant-loop-child l = child_rule (drop l.child-index l.children) (chars l.local) ≡ child_rule l.children (chars l.local)
