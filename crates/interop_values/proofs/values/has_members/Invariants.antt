use Rattle.std.proofs.Common.{◌≡◌, drop}
use Rattle.biblatex_content.specs.Views.{styled}
use Rattle.laws.specs.Text.{is_filled}
use Rattle.interop_values.proofs.values.has_members.Given as goal

abbrev pub invariant-loop-chunk : goal.invariant-loop-chunk
invariant-loop-chunk l = is_filled (styled (drop l.chunk-index l.value)) ≡ is_filled (styled l.value)
