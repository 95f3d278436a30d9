use Rattle.std.proofs.Common.{refl}
use Rattle.std.specs.Str.{chars}
use Rattle.cite_styles.specs.English.{words}
use Rattle.cite_styles.proofs.rows.words.Goals as goal

pub returns : goal.returns
unfolding chars words
returns c = refl
