use Rattle.std.proofs.Common.{◌≡◌, ◌++◌, length}
use denote.Shadow.{shadow}
use denote.Text.{Utf8}
use Rattle.std.specs.Str.{chars}
use Rattle.laws.specs.Text.{characters}
use Rattle.rendering_cases.specs.Along.{changed_along, past}
use Rattle.rendering_cases.specs.Views.{place_view}
use Rattle.rendering_cases.proofs.cased.changed_value.Given as goal

abbrev pub invariant-loop-c : goal.invariant-loop-c
invariant-loop-c l =
    (characters l.changed ++ changed_along l.case l.in_capitals (place_view l.place) (chars l.rest) ≡ changed_along l.case l.in_capitals (place_view l.fn.place) (chars l.text))
    × (past (place_view l.place) (chars l.rest) ≡ past (place_view l.fn.place) (chars l.text))
    × shadow (Utf8 l.rest)

abbrev pub decreases-loop-c : goal.decreases-loop-c
decreases-loop-c l = length (chars l.rest)
