use Rattle.std.proofs.Common.{◌∙◌, codes}
use Rattle.clap.specs.Words.{found_of, rows_of}
use Rattle.clap.proofs.WalkLemmas.{first_value-rows}
use Rattle.cite_csl_command.proofs.Given.{asked_is}
use Rattle.cite_csl_command.proofs.asked.asked_in.Goals as goal

pub returns : goal.returns
returns c =
    asked_is (rows_of (found_of c.args.matches.now)) c.in_ok-format.format _ _ _ _ _ _ _ c.in_ok-format.ensures c.value.ensures c.in_ok-locales.ensures
    (c.get_str.ensures ∙ first_value-rows (found_of c.args.matches.now) (codes "lang")) c.in_ok-bibs.ensures c.in_ok-sections.ensures c.is_given.ensures c.value-2.ensures
