use Rattle.std.proofs.lemmas.Grind.{common_steps}
use Rattle.std.proofs.Common.{arith}
use Rattle.biblatex_lists.proofs.styled_char.plain_text.Goals as goal

pub loop-styled-preserved : goal.loop-styled-preserved
loop-styled-preserved c = grind (arith, common_steps)
