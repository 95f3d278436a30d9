use Rattle.biblatex_meaning.proofs.Reading.{all_read_well}
use Rattle.biblatex_meaning.proofs.meanings.all_that_is_read_is_well_read.Goals as goal

pub returns : goal.returns
returns c = all_read_well
