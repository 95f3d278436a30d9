use Rattle.csl_laws.proofs.PiecesAlike.{comments_nothing}
use Rattle.csl_laws.proofs.pieces_alike.comments_spell_nothing.Goals as goal

pub returns : goal.returns
returns c = comments_nothing
