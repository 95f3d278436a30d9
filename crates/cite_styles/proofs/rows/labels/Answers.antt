use Rattle.std.proofs.Common.{refl}
use Rattle.std.specs.Str.{chars}
use Rattle.cite_styles.specs.English.{labels}
use Rattle.cite_styles.proofs.rows.labels.Goals as goal

pub returns : goal.returns
unfolding chars labels
returns c = refl
