use Rattle.biblatex_readings_grammar.proofs.Tidied.{tidied-again, tidied-takes}
use Rattle.biblatex_readings_grammar.proofs.contents.tidied_is_what_is_related.Goals as goal

pub returns : goal.returns
returns c ms ns = (tidied-takes ms ns, tidied-again ms ns)
