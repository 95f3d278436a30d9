use Rattle.csl_laws.proofs.PiecesAlike.{pieces_same}
use Rattle.csl_laws.proofs.pieces_alike.pieces_of_one_text_spell_the_same.Goals as goal

pub returns : goal.returns
returns c = pieces_same
