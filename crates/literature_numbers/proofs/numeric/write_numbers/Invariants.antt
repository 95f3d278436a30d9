use Rattle.std.proofs.Common.{take}
use Rattle.std.specs.Fmt.{HasWritten, IsPlainFormatter}
use Rattle.std.specs.List.{flat_map}
use Rattle.laws.specs.Text.{text}
use Rattle.literature_numbers.specs.NumericText.{linked_text}
use Rattle.literature_numbers.proofs.numeric.write_numbers.Given as goal

abbrev pub invariant-loop-linked : goal.invariant-loop-linked
invariant-loop-linked g l =
    IsPlainFormatter l.initial.f → HasWritten g.W.Write.write_str_gives l.initial.f (text (flat_map linked_text (take l.linked-index l.numbers))) l.f
