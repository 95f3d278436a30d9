use Rattle.std.proofs.Common.{◌≡◌, ◌++◌, take, map}
use Rattle.std.specs.List.{flat_map}
use Rattle.biblatex_lists.specs.Writing.{so_far, after_and}
use Rattle.biblatex_lists.specs.Views.{named_view}
use Rattle.biblatex_lists.specs.PeopleWriting.{written_person}
use Rattle.biblatex_lists.proofs.people_writing.push_others.Given as goal

abbrev pub invariant-loop-person : goal.invariant-loop-person
invariant-loop-person l = so_far l.writing ≡ so_far l.fn.writing ++ flat_map after_and (map written_person (map named_view (take l.person-index l.people)))
