use Rattle.std.proofs.Common.{ap, ◌∙◌, [], false, sym, codes}
use Rattle.std.specs.Prelude.{unwrap_or}
use Rattle.std.specs.Str.{bytes_eq}
use Rattle.clap.specs.Words.{found_of, one_text}
use Rattle.clap.proofs.WalkLemmas.{one_text-rows}
use Rattle.cite_csl_command.proofs.Given.{flag_is}
use Rattle.cite_csl_command.proofs.asked.is_given.Goals as goal

pub returns-in-Some : goal.returns-in-Some
returns-in-Some c = ap (λ r. unwrap_or r false) (sym c.in-Some.is)
    ∙ (flag_is _ (one_text (found_of c.args.matches.now) c.args.name.now) c.get_one.result c.get_one.ensures.none c.get_one.ensures.value
    ∙ ap (λ o. bytes_eq (unwrap_or o []) (codes "true")) (one_text-rows (found_of c.args.matches.now) c.args.name.now))

pub returns-in-None : goal.returns-in-None
returns-in-None c = ap (λ r. unwrap_or r false) (sym c.in-None.is)
    ∙ (flag_is _ (one_text (found_of c.args.matches.now) c.args.name.now) c.get_one.result c.get_one.ensures.none c.get_one.ensures.value
    ∙ ap (λ o. bytes_eq (unwrap_or o []) (codes "true")) (one_text-rows (found_of c.args.matches.now) c.args.name.now))
