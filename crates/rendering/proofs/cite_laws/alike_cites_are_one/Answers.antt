use Rattle.rendering.proofs.CitesAlike.{cites_alike}
use Rattle.rendering.proofs.cite_laws.alike_cites_are_one.Goals as goal

-- src/cite_laws.rt:6:1
pub returns : goal.returns
returns c = cites_alike
