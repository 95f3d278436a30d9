use Rattle.std.proofs.Common.{arith}
use Rattle.std.proofs.lemmas.Grind.{text_groups}
use Rattle.driver_blocks.proofs.blocks.add.Goals as goal

pub returns : goal.returns
returns c = grind (arith, text_groups)
