use Rattle.std.proofs.Common.{◌≡◌, map, take}
use Rattle.biblatex_text.specs.Raw.{Field}
use Rattle.biblatex_text.specs.Views.{field_view}
use Rattle.biblatex_fields.specs.Abbreviations.{references_of}
use Rattle.biblatex_fields.specs.Views.{IsIndex}
use Rattle.reference_graph.specs.References.{lists}
use Rattle.biblatex_fields.proofs.references.references.Given as goal

abbrev pub invariant-loop-definition : goal.invariant-loop-definition
invariant-loop-definition l = IsIndex l.table (map field_view l.definitions) → lists l.all.items ≡ map (λ (d : Field). references_of (map field_view l.definitions) d.value.v) (map field_view (take l.definition-index l.definitions))
