use Rattle.biblatex_readings_grammar.proofs.DateLaws.{read-is, is-read}
use Rattle.biblatex_readings_grammar.proofs.dates.date_is_what_is_related.Goals as goal

pub returns : goal.returns
returns c cs answer = (read-is cs answer, is-read cs answer)
