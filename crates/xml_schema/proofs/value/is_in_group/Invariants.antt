use Rattle.std.proofs.Common.{◌≡◌, drop}
use Rattle.xml_schema.specs.Values.{is_in_group}
use Rattle.xml_schema.proofs.value.is_in_group.Given as goal

abbrev pub invariant-loop-group : goal.invariant-loop-group
invariant-loop-group l = is_in_group (drop l.group-index l.groups) l.text ≡ is_in_group l.groups l.text
