use Rattle.std.proofs.Common.{◌≡◌, drop}
use Rattle.std.specs.List.{find}
use Rattle.std.specs.Str.{bytes_eq}
use Rattle.xml_schema.specs.Tables.{Rule}
use Rattle.xml_schema.proofs.standing.rule_named.Given as goal

abbrev pub invariant-loop-rule : goal.invariant-loop-rule
invariant-loop-rule l = find (λ (r : Rule). bytes_eq r.name.now l.name) (drop l.rule-index l.rules) ≡ find (λ (r : Rule). bytes_eq r.name.now l.name) l.rules
