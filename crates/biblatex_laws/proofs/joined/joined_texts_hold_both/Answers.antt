use Rattle.biblatex_laws.proofs.JoinedTexts.{joined_hold}
use Rattle.biblatex_laws.proofs.joined.joined_texts_hold_both.Goals as goal

pub returns : goal.returns
returns c = joined_hold
