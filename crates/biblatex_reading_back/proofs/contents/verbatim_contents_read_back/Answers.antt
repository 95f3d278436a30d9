use Rattle.biblatex_reading_back.proofs.VerbatimBack.{verbatim_back}
use Rattle.biblatex_reading_back.proofs.contents.verbatim_contents_read_back.Goals as goal

pub returns : goal.returns
returns c = verbatim_back
