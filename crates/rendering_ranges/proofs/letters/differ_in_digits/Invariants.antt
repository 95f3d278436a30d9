use Rattle.std.proofs.Common.{◌≡◌, length}
use denote.Shadow.{shadow}
use denote.Text.{Utf8}
use Rattle.std.specs.Str.{chars}
use Rattle.rendering_ranges.specs.Lettered.{differ_in_digits}
use Rattle.rendering_ranges.proofs.letters.differ_in_digits.Given as goal

abbrev pub invariant-loop-c : goal.invariant-loop-c
invariant-loop-c l =
    (differ_in_digits (chars l.left) (chars l.right)
    ≡ differ_in_digits (chars l.first) (chars l.second))
    × shadow (Utf8 l.left) × shadow (Utf8 l.right)

abbrev pub decreases-loop-c : goal.decreases-loop-c
decreases-loop-c l = length (chars l.left)
