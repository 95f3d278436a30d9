use Rattle.std.proofs.Common.{refl}
use Rattle.std.specs.Str.{chars}
use Rattle.cite_styles.specs.Dates.{endings}
use Rattle.cite_styles.proofs.endings.endings.Goals as goal

pub returns : goal.returns
unfolding chars endings
returns c = refl
