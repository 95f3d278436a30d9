use Rattle.std.proofs.Common.{refl}
use Rattle.std.specs.Str.{chars}
use Rattle.cite_styles.specs.English.{counted}
use Rattle.cite_styles.proofs.rows.counted.Goals as goal

pub returns : goal.returns
unfolding chars counted
returns c = refl
