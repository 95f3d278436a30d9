use Rattle.std.proofs.Common.{◌≡◌, ◌++◌, string_bytes, length}
use denote.Text.{Utf8}
use denote.Shadow.{shadow}
use Rattle.std.specs.Str.{chars}
use Rattle.laws.specs.Runs.{Bars}
use Rattle.bib_show.specs.Shown.{is_plain, shown_characters}
use Rattle.bib_show.proofs.member.push_characters.Given as goal

abbrev pub invariant-loop-c : goal.invariant-loop-c
invariant-loop-c l = (string_bytes l.out ++ shown_characters (chars l.rest) ≡ string_bytes l.fn.out ++ shown_characters (chars l.text)) × (Bars is_plain (chars l.rest) × shadow (Utf8 l.rest))

abbrev pub decreases-loop-c : goal.decreases-loop-c
decreases-loop-c l = length (chars l.rest)
