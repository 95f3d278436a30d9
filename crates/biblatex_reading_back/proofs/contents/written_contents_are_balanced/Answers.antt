use Rattle.biblatex_reading_back.proofs.BalancedContents.{content_balanced}
use Rattle.biblatex_reading_back.proofs.contents.written_contents_are_balanced.Goals as goal

pub returns : goal.returns
returns c = content_balanced
