use Rattle.std.proofs.Common.{refl}
use Rattle.std.specs.Str.{chars}
use Rattle.cite_styles.specs.Dates.{numeric_parts}
use Rattle.cite_styles.proofs.dates.numeric_parts.Goals as goal

pub returns : goal.returns
unfolding chars numeric_parts
returns c = refl
