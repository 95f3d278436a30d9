use Rattle.std.proofs.Common.{◌≡◌, drop}
use Rattle.std.specs.Str.{chars}
use Rattle.xml_schema.specs.Faults.{values_of}
use Rattle.xml_schema.proofs.attribute.values_of.Given as goal

abbrev pub invariant-loop-rule : goal.invariant-loop-rule
invariant-loop-rule l = values_of (drop l.rule-index l.rules) (chars l.local) ≡ values_of l.rules (chars l.local)
