use Rattle.cite_laws.proofs.PrintedCites.{names_share}
use Rattle.cite_laws.proofs.names.names_of_one_work_share_number_and_state.Goals as goal

pub returns : goal.returns
returns c = names_share
