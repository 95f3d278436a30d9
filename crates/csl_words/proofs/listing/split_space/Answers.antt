use Rattle.std.proofs.Common.{arith}
use Rattle.std.proofs.lemmas.Str.Pattern.{split_once_first}
use Rattle.laws.specs.Characters.{space}
use Rattle.xml_schema.proofs.Spaces.{spaces}
use Rattle.csl_words.proofs.listing.split_space.Goals as goal

pub returns-clause-parts : goal.returns-clause-parts
returns-clause-parts c = spaces c.args.text.now c.split_once.result (split_once_first space c.args.text.now c.split_once.result c.split_once.ensures.cases (omega arith))
