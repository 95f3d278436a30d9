use Rattle.std.proofs.Common.{◌≡◌, ◌++◌, map, take}
use Rattle.std.specs.List.{flat_map}
use Rattle.laws.specs.Text.{characters}
use Rattle.literature_values.specs.PersonViews.{person_view}
use Rattle.rendering_numbers.specs.SuffixesAndLabels.{initial_letters}
use Rattle.rendering_numbers.proofs.suffixes_and_labels.push_initials.Given as goal

abbrev pub invariant-loop-person : goal.invariant-loop-person
invariant-loop-person l = characters l.out ≡ characters l.initial.out ++ flat_map (initial_letters 1) (map person_view (take l.person-index l.people))
