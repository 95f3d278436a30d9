use Rattle.biblatex_meaning.proofs.Meaning.{one_meaning_there}
use Rattle.biblatex_meaning.proofs.meanings.each_text_has_one_meaning.Goals as goal

pub returns : goal.returns
returns c = one_meaning_there
