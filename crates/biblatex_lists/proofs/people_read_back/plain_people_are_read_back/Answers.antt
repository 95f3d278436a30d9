use Rattle.biblatex_lists.proofs.PeopleBack.{plain_people_are_back}
use Rattle.biblatex_lists.proofs.people_read_back.plain_people_are_read_back.Goals as goal

pub returns : goal.returns
returns c = plain_people_are_back
