use Rattle.std.proofs.Common.{refl, rules, ◌<◌, length, true}
use Rattle.std.proofs.Output.{has_written_of_eq, has_written_append}
use Rattle.literature_numbers.specs.NumericText.{linked_text}
use Rattle.texts.proofs.GrowingWritten.{text-more}
use Rattle.literature_numbers.proofs.numeric.write_numbers.Goals as goal

pub loop-linked-preserved : goal.loop-linked-preserved
loop-linked-preserved g c = λ plain.
    let below : c.loop-linked.linked-index < length c.args.numbers.now = search rules in
    let before = c.loop-linked.invariant plain in
    let h = c.in_ok-write_linked.ensures before.plain (refl {a = true}) in
    has_written_of_eq _ _ _ _ _
    (text-more linked_text c.args.numbers.now c.loop-linked.linked-index _ below)
    (has_written_append _ _ _ _ _ _ before h)
