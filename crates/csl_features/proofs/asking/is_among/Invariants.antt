use Rattle.std.proofs.Common.{◌≡◌, drop}
use Rattle.std.specs.List.{list_any}
use Rattle.std.specs.Str.{bytes_eq}
use Rattle.laws.specs.Borrowed.{borrowed}
use Rattle.csl_features.proofs.asking.is_among.Given as goal

abbrev pub invariant-loop-each : goal.invariant-loop-each
invariant-loop-each l = list_any (bytes_eq l.word) (borrowed (drop l.each-index l.words)) ≡ list_any (bytes_eq l.word) (borrowed l.words)
