use Rattle.driver_laws.proofs.SuffixesGiven.{suffixes_final}
use Rattle.driver_laws.proofs.year_suffixes_are_final.Goals as goal

pub returns : goal.returns
returns c = suffixes_final
