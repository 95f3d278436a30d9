use Rattle.std.proofs.Common.{◌≡◌, drop}
use denote.Text.{Utf8}
use denote.Shadow.{shadow}
use Rattle.std.specs.Str.{chars}
use Rattle.driver_citations.proofs.ending_text.without_first.Given as goal

abbrev pub invariant-loop-index : goal.invariant-loop-index
invariant-loop-index l = (chars l.rest ≡ drop l.index (chars l.fn.text)) × shadow (Utf8 l.rest)
