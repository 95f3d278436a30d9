use Rattle.std.proofs.Common.{◌≡◌, length}
use denote.Shadow.{shadow}
use denote.Text.{Utf8}
use Rattle.std.specs.Str.{chars}
use Rattle.rendering_ranges.specs.Dashes.{has_padding, padding_after}
use Rattle.rendering_ranges.proofs.dashes.has_padding.Given as goal

abbrev pub invariant-loop-c : goal.invariant-loop-c
invariant-loop-c l = (padding_after l.is_inside (chars l.rest) ≡ has_padding (chars l.text)) × shadow (Utf8 l.rest)

abbrev pub decreases-loop-c : goal.decreases-loop-c
decreases-loop-c l = length (chars l.rest)
