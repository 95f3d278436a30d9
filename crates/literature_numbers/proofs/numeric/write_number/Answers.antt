use Rattle.std.proofs.Common.{rules, sym}
use Rattle.std.proofs.Output.{has_written_of_eq}
use Rattle.texts.proofs.GrowingWritten.{text-number}
use Rattle.literature_numbers.proofs.numeric.write_number.Goals as goal

pub returns : goal.returns
returns g c = λ plain ok. has_written_of_eq _ _ _ _ _ (sym (text-number c.args.number c.ranges.number)) (search rules)
