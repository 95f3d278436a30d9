use Rattle.std.proofs.Common.{refl}
use Rattle.std.specs.Str.{chars}
use Rattle.cite_styles.specs.English.{months}
use Rattle.cite_styles.proofs.rows.months.Goals as goal

pub returns : goal.returns
unfolding chars months
returns c = refl
