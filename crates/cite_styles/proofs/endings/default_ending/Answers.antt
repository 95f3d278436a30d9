use Rattle.std.proofs.Common.{refl}
use Rattle.std.specs.Str.{chars}
use Rattle.cite_styles.proofs.endings.default_ending.Goals as goal

pub returns : goal.returns
unfolding chars
returns c = refl
