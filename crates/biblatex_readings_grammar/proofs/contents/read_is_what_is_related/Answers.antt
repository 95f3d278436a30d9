use Rattle.biblatex_readings_grammar.proofs.ContentLaws.{ordinary-again, ordinary-takes}
use Rattle.biblatex_readings_grammar.proofs.contents.read_is_what_is_related.Goals as goal

pub returns : goal.returns
returns c cs ms = (ordinary-takes cs ms, ordinary-again cs ms)
