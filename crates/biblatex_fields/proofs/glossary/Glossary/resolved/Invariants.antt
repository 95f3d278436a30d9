use Rattle.std.proofs.Common.{◌≡◌, ℕ, Bool, length, map, take}
use Rattle.biblatex_text.specs.Views.{field_view}
use Rattle.biblatex_fields.specs.Openings.{Replacement, resolved_at, unresolved_at}
use Rattle.biblatex_fields.proofs.glossary.Glossary.resolved.Given as goal

abbrev pub invariant-loop-definition : goal.invariant-loop-definition
invariant-loop-definition l = record {
  long : length l.resolved.items ≡ l.definition-index;
  each : (v : Bool) (index : ℕ) → Replacement l.self v (resolved_at l.resolved.items index) (unresolved_at (map field_view (take l.definition-index l.definition-items)) index);
}
