use Rattle.biblatex_readings_grammar.proofs.ContentLaws.{malformed-unrelated, unrelated-malformed}
use Rattle.biblatex_readings_grammar.proofs.contents.malformed_is_unrelated.Goals as goal

pub returns : goal.returns
returns c cs = (malformed-unrelated cs, unrelated-malformed cs)
