use Rattle.std.proofs.Common.{refl}
use Rattle.bib_show.proofs.program.information.Goals as goal

pub returns-in-text : goal.returns-in-text
returns-in-text c = rw c.in-text.is refl
