use Rattle.std.proofs.Common.{length}
use denote.Text.{Utf8}
use denote.Shadow.{shadow}
use Rattle.std.specs.Str.{chars}
use Rattle.laws.specs.Text.{characters}
use Rattle.csl_words.specs.Printing.{spaced}
use Rattle.csl_words.proofs.Spacing.{Appends}
use Rattle.csl_words.proofs.printing.spaced.Given as goal

abbrev pub invariant-loop-c : goal.invariant-loop-c
invariant-loop-c l = Appends (characters l.spaced) l.after_space (chars l.rest) (spaced (chars l.text)) × shadow (Utf8 l.rest)

abbrev pub decreases-loop-c : goal.decreases-loop-c
decreases-loop-c l = length (chars l.rest)
