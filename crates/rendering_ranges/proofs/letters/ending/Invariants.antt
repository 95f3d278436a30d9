use Rattle.std.proofs.Common.{◌≡◌, length}
use denote.Shadow.{shadow}
use denote.Text.{Utf8}
use Rattle.std.specs.Str.{chars}
use Rattle.rendering_ranges.specs.Lettered.{ending, ending_after}
use Rattle.rendering_ranges.proofs.letters.ending.Given as goal

abbrev pub invariant-loop-c : goal.invariant-loop-c
invariant-loop-c l =
    (ending_after (chars l.found) (chars l.rest) ≡ ending (chars l.text))
    × shadow (Utf8 l.found) × shadow (Utf8 l.rest)

abbrev pub decreases-loop-c : goal.decreases-loop-c
decreases-loop-c l = length (chars l.rest)
