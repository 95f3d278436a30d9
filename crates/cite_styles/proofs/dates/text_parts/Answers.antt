use Rattle.std.proofs.Common.{refl}
use Rattle.std.specs.Str.{chars}
use Rattle.cite_styles.specs.Dates.{text_parts}
use Rattle.cite_styles.proofs.dates.text_parts.Goals as goal

pub returns : goal.returns
unfolding chars text_parts
returns c = refl
