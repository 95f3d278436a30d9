use Rattle.biblatex_lists.proofs.ReadBack.{texts_are_back}
use Rattle.biblatex_lists.proofs.read_back.texts_are_read_back.Goals as goal

pub returns : goal.returns
returns c = texts_are_back
