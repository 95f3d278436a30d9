use Rattle.biblatex_laws.proofs.JoinedTexts.{follows}
use Rattle.biblatex_laws.proofs.joined.what_follows_is_read.Goals as goal

pub returns : goal.returns
returns c = follows
