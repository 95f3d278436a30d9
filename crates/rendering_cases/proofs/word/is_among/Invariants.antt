use Rattle.std.proofs.Common.{◌≡◌, drop}
use Rattle.std.specs.List.{list_any}
use Rattle.std.specs.Str.{bytes_eq}
use Rattle.laws.specs.Borrowed.{borrowed}
use Rattle.rendering_cases.proofs.word.is_among.Given as goal

abbrev pub invariant-loop-word : goal.invariant-loop-word
invariant-loop-word l = list_any (bytes_eq l.text) (borrowed (drop l.word-index l.words)) ≡ list_any (bytes_eq l.text) (borrowed l.words)
