use Rattle.std.proofs.Common.{◌≡◌, length, reverse}
use denote.Shadow.{shadow}
use denote.Text.{Utf8}
use Rattle.std.specs.Str.{chars}
use Rattle.rendering_leaves.specs.Links.{after_start}
use Rattle.rendering_leaves.proofs.links.before_end.Given as goal

abbrev pub invariant-loop-c : goal.invariant-loop-c
invariant-loop-c l =
    (after_start (reverse (chars l.rest)) (reverse (chars l.before)) ≡ after_start (reverse (chars l.fn.end)) (reverse (chars l.fn.text)))
    × shadow (Utf8 l.before)
    × shadow (Utf8 l.rest)

abbrev pub decreases-loop-c : goal.decreases-loop-c
decreases-loop-c l = length (chars l.rest)
