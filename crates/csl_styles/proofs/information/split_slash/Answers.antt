use Rattle.std.proofs.Common.{arith}
use Rattle.std.proofs.lemmas.Str.Pattern.{split_once_first}
use Rattle.laws.specs.Characters.{slash}
use Rattle.csl_styles.proofs.Segments.{slashes}
use Rattle.csl_styles.proofs.information.split_slash.Goals as goal

pub returns-clause-parts : goal.returns-clause-parts
returns-clause-parts c = slashes c.args.text.now c.split_once.result (split_once_first slash c.args.text.now c.split_once.result c.split_once.ensures.cases (omega arith))
