use Rattle.cite_laws.proofs.OtherNames.{other_names}
use Rattle.cite_laws.proofs.names.other_names_print_the_same.Goals as goal

pub returns : goal.returns
returns c = other_names
