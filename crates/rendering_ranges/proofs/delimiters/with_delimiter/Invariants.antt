use Rattle.std.proofs.Common.{◌≡◌, false, ◌++◌, length}
use denote.Shadow.{shadow}
use denote.Text.{Utf8}
use Rattle.std.specs.Str.{chars}
use Rattle.laws.specs.Text.{characters}
use Rattle.rendering_ranges.specs.Delimited.{delimited_after}
use Rattle.rendering_ranges.proofs.delimiters.with_delimiter.Given as goal

abbrev pub invariant-loop-c : goal.invariant-loop-c
invariant-loop-c l =
    (characters l.out ++ delimited_after (chars l.delimiter) l.has_come (chars l.rest)
    ≡ delimited_after (chars l.delimiter) false (chars l.text)) × shadow (Utf8 l.rest)

abbrev pub decreases-loop-c : goal.decreases-loop-c
decreases-loop-c l = length (chars l.rest)
