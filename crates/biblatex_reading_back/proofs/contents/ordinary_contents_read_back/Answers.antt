use Rattle.biblatex_reading_back.proofs.ContentBack.{ordinary_back}
use Rattle.biblatex_reading_back.proofs.contents.ordinary_contents_read_back.Goals as goal

pub returns : goal.returns
returns c = ordinary_back
