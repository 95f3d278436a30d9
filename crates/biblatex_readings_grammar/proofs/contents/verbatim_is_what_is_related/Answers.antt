use Rattle.biblatex_readings_grammar.proofs.Verbatim.{verbatim-again, verbatim-takes}
use Rattle.biblatex_readings_grammar.proofs.contents.verbatim_is_what_is_related.Goals as goal

pub returns : goal.returns
returns c cs t = (verbatim-takes cs t, verbatim-again cs t)
