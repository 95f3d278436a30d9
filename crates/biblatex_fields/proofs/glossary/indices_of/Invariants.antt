use Rattle.std.proofs.Common.{take, map}
use Rattle.biblatex_text.specs.Views.{field_view}
use Rattle.biblatex_fields.specs.Views.{IsIndex}
use Rattle.biblatex_fields.proofs.glossary.indices_of.Given as goal

abbrev pub invariant-loop-index : goal.invariant-loop-index
invariant-loop-index l = IsIndex l.indices (map field_view (take l.index l.definitions))
