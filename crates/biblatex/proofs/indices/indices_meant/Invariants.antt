use Rattle.std.proofs.Common.{◌≡◌, map, string_bytes}
use Rattle.std.specs.Prelude.{filter_map}
use Rattle.biblatex.specs.Indices.{meaning_in, names_in}
use Rattle.biblatex.proofs.indices.indices_meant.Given as goal

abbrev pub invariant-loop-name : goal.invariant-loop-name
invariant-loop-name l = l.meant.items ≡ filter_map (meaning_in (names_in l.indices)) (map string_bytes l.yielded)
