use Rattle.std.proofs.Common.{◌≡◌, ◌++◌, length}
use denote.Shadow.{shadow}
use denote.Text.{Utf8}
use Rattle.std.specs.Str.{chars}
use Rattle.laws.specs.Text.{characters}
use Rattle.rendering_leaves.specs.Words as specs
use Rattle.rendering_locale.specs.Views.{ordinals_view}
use Rattle.rendering_leaves.proofs.words.words_in.Given as goal

abbrev pub invariant-loop-c : goal.invariant-loop-c
invariant-loop-c l =
    (characters l.out ++ specs.words_after (ordinals_view l.ordinals) l.form l.is_inside (chars l.rest)
    ≡ specs.words_in (ordinals_view l.ordinals) l.form (chars l.text)) × shadow (Utf8 l.rest)

abbrev pub decreases-loop-c : goal.decreases-loop-c
decreases-loop-c l = length (chars l.rest)
