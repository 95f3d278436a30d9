use Rattle.biblatex_readings_grammar.proofs.PeopleLaws.{is_related, is_read}
use Rattle.biblatex_readings_grammar.proofs.people.people_are_what_is_related.Goals as goal

pub returns : goal.returns
returns c ss ns = (is_related ss ns, is_read ss ns)
