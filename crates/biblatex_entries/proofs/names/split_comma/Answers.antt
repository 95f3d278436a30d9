use Rattle.std.proofs.Common.{arith}
use Rattle.std.proofs.lemmas.Str.Pattern.{split_once_first}
use Rattle.laws.specs.Characters.{comma}
use Rattle.biblatex_entries.proofs.NamesCommas.{commas}
use Rattle.biblatex_entries.proofs.names.split_comma.Goals as goal

pub returns-clause-parts : goal.returns-clause-parts
returns-clause-parts c = commas c.args.text.now c.split_once.result (split_once_first comma c.args.text.now c.split_once.result c.split_once.ensures.cases (omega arith))
