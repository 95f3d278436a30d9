use Rattle.std.proofs.Common.{Some, None, ◌∙◌, arith}
use Rattle.std.proofs.lemmas.Str.Pattern.{rfind_char}
use Rattle.laws.specs.Characters.{slash}
use Rattle.cite_csl_styles.proofs.Directories.{by_last_slash}
use Rattle.cite_csl_styles.proofs.parents.directory.Goals as goal

pub returns-in-Some : goal.returns-in-Some
returns-in-Some c = c.range.ensures.value ∙ by_last_slash c.args.path.now (Some c.in-Some.at) (rfind_char slash c.args.path.now (Some c.in-Some.at) c.in-Some.ensures.cases (omega arith))

pub returns-in-None : goal.returns-in-None
returns-in-None c = by_last_slash c.args.path.now None (rfind_char slash c.args.path.now None c.in-None.ensures.cases (omega arith))
