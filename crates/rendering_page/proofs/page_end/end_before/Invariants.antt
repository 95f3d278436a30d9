use Rattle.std.proofs.Common.{◌≡◌, ◌++◌, ℕ, List, length, reverse}
use denote.Shadow.{shadow}
use denote.Text.{Utf8}
use Rattle.std.specs.Str.{chars}
use Rattle.rendering_page.specs.Cursors.{begins}
use Rattle.rendering_page.proofs.page_end.end_before.Given as goal

abbrev pub invariant-loop-c : goal.invariant-loop-c
invariant-loop-c l =
    ((xs : List ℕ) → begins (reverse (chars l.fn.end)) (reverse (chars l.text) ++ xs) ≡ begins (reverse (chars l.end)) (reverse (chars l.rest) ++ xs))
    × shadow (Utf8 l.end)
    × shadow (Utf8 l.rest)

abbrev pub decreases-loop-c : goal.decreases-loop-c
decreases-loop-c l = length (chars l.rest)
