use Rattle.std.proofs.Common.{◌≡◌, drop}
use Rattle.biblatex_suppliers.specs.Written.{shared_named}
use Rattle.biblatex_suppliers.proofs.written.shared_named.Given as goal

abbrev pub invariant-loop-field : goal.invariant-loop-field
invariant-loop-field l = shared_named l.name (drop l.field-index l.shared) ≡ shared_named l.name l.shared
