use Rattle.std.proofs.Common.{◌≡◌, ◌≤◌, length}
use denote.Text.{Utf8}
use denote.Shadow.{shadow}
use Rattle.std.specs.Prelude.{min}
use Rattle.std.specs.Str.{chars}
use Rattle.std.specs.Str.Parse.{digits_value_after, digits_value}
use Rattle.xml_text.proofs.value.number_of.Given as goal

abbrev pub invariant-loop-c : goal.invariant-loop-c
invariant-loop-c l = (l.number ≤ 0x110000) × (min (digits_value_after l.radix l.number (chars l.rest)) 0x110000 ≡ min (digits_value l.radix (chars l.digits)) 0x110000) × shadow (Utf8 l.rest)

abbrev pub decreases-loop-c : goal.decreases-loop-c
decreases-loop-c l = length (chars l.rest)
