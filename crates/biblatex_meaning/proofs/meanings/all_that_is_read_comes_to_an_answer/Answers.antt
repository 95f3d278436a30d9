use Rattle.biblatex_meaning.proofs.Meaning.{comes}
use Rattle.biblatex_meaning.proofs.meanings.all_that_is_read_comes_to_an_answer.Goals as goal

pub returns : goal.returns
returns c = comes
