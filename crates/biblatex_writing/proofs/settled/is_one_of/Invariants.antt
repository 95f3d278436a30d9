use Rattle.std.proofs.Common.{◌≡◌, map, drop}
use Rattle.std.specs.List.{list_any}
use Rattle.std.specs.Str.{bytes_eq}
use Rattle.biblatex_writing.proofs.settled.is_one_of.Given as goal

abbrev pub invariant-loop-other : goal.invariant-loop-other
invariant-loop-other l = list_any (bytes_eq l.name) (map (λ other. other.now) (drop l.other-index l.names)) ≡ list_any (bytes_eq l.name) (map (λ other. other.now) l.names)
