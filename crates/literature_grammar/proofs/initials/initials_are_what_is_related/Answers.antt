use Rattle.literature_grammar.proofs.InitialsLaws.{is_related, is_written}
use Rattle.literature_grammar.proofs.initials.initials_are_what_is_related.Goals as goal

pub returns : goal.returns
returns c h delimiter name cs = (is_related h delimiter name cs, is_written h delimiter name cs)
