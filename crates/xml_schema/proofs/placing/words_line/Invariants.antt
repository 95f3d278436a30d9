use Rattle.std.proofs.Common.{◌≡◌, length}
use denote.Text.{Utf8}
use denote.Shadow.{shadow}
use Rattle.std.specs.Str.{chars}
use Rattle.xml_schema.specs.Placing.{words_line}
use Rattle.xml_schema.proofs.placing.words_line.Given as goal

abbrev pub invariant-loop-c : goal.invariant-loop-c
invariant-loop-c l = (words_line (chars l.line) (chars l.rest) ≡ words_line (chars l.text) (chars l.text)) × (shadow (Utf8 l.rest) × shadow (Utf8 l.line))

abbrev pub decreases-loop-c : goal.decreases-loop-c
decreases-loop-c l = length (chars l.rest)
