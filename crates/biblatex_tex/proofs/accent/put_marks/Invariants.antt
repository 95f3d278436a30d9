use Rattle.std.proofs.Common.{◌≡◌, length, reverse}
use Rattle.biblatex_tex.specs.Accent.{marked}
use Rattle.biblatex_tex.proofs.accent.put_marks.Given as goal

abbrev pub invariant-loop-mark : goal.invariant-loop-mark
invariant-loop-mark l = marked l.marks.items (reverse l.text.items) ≡ marked l.fn.marks.items (reverse l.fn.text.items)

abbrev pub decreases-loop-mark : goal.decreases-loop-mark
decreases-loop-mark l = length l.marks.items
