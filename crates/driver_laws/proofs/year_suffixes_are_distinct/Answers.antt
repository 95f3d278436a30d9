use Rattle.driver_laws.proofs.SuffixesGiven.{suffixes_distinct}
use Rattle.driver_laws.proofs.year_suffixes_are_distinct.Goals as goal

pub returns : goal.returns
returns c = suffixes_distinct
