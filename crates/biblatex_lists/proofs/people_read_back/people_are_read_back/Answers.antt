use Rattle.biblatex_lists.proofs.PeopleBack.{people_are_back}
use Rattle.biblatex_lists.proofs.people_read_back.people_are_read_back.Goals as goal

pub returns : goal.returns
returns c = people_are_back
