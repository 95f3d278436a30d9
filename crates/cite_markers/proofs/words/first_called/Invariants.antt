use Rattle.std.proofs.Common.{◌≡◌, drop}
use Rattle.std.specs.List.{find}
use Rattle.std.specs.Str.{bytes_eq}
use Rattle.cite_markers.specs.Words.{label_word}
use Rattle.cite_markers.proofs.words.first_called.Given as goal

abbrev pub invariant-loop-label : goal.invariant-loop-label
invariant-loop-label l = find (λ x. bytes_eq l.word (label_word x)) (drop l.label-index l.labels) ≡ find (λ x. bytes_eq l.word (label_word x)) l.labels
