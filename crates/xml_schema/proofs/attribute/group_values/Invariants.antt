use Rattle.std.proofs.Common.{◌≡◌, drop}
use Rattle.std.specs.Str.{chars}
use Rattle.xml_schema.specs.Faults.{group_values}
use Rattle.xml_schema.proofs.attribute.group_values.Given as goal

abbrev pub invariant-loop-group : goal.invariant-loop-group
invariant-loop-group l = group_values (drop l.group-index l.groups) (chars l.local) ≡ group_values l.groups (chars l.local)
