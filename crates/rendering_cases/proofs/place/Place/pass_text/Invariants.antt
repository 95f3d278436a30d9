use Rattle.std.proofs.Common.{◌≡◌, length}
use denote.Shadow.{shadow}
use denote.Text.{Utf8}
use Rattle.std.specs.Str.{chars}
use Rattle.rendering_cases.specs.Along.{past}
use Rattle.rendering_cases.specs.Views.{place_view}
use Rattle.rendering_cases.proofs.place.Place.pass_text.Given as goal

abbrev pub invariant-loop-c : goal.invariant-loop-c
invariant-loop-c l = (past (place_view l.self) (chars l.rest) ≡ past (place_view l.fn.self) (chars l.text)) × shadow (Utf8 l.rest)

abbrev pub decreases-loop-c : goal.decreases-loop-c
decreases-loop-c l = length (chars l.rest)
