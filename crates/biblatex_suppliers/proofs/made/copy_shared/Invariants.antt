use Rattle.std.proofs.Common.{take}
use Rattle.biblatex_inherited_fields.specs.Views.{PassesOn}
use Rattle.biblatex_suppliers.specs.Written.{shared_named}
use Rattle.biblatex_suppliers.proofs.made.copy_shared.Given as goal

abbrev pub invariant-loop-field : goal.invariant-loop-field
invariant-loop-field l = PassesOn l.fn.fields l.fields (λ q. shared_named q (take l.field-index l.shared))
