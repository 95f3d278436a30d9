use Rattle.std.proofs.Common.{ap, ◌∙◌, subst, sym, codes}
use Rattle.clap.specs.Words.{found_of}
use Rattle.clap.proofs.WalkLemmas.{first_value-rows}
use Rattle.cite_csl_command.specs.Command.{format_in}
use Rattle.cite_csl_command.specs.Views.{IsFormatOf}
use Rattle.cite_csl_command.proofs.asked.format_in.Goals as goal

pub returns-in-Some : goal.returns-in-Some
returns-in-Some c = subst (λ o. IsFormatOf c.known_format.result o) (c.in-Some.ensures ∙ first_value-rows (found_of c.args.matches.now) (codes "to")) c.known_format.ensures

pub returns-in-None : goal.returns-in-None
returns-in-None c = ap format_in (sym (c.in-None.ensures ∙ first_value-rows (found_of c.args.matches.now) (codes "to")))
