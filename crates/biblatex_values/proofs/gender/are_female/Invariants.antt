use Rattle.std.proofs.Common.{◌≡◌, true, take}
use Rattle.std.specs.List.{list_all}
use Rattle.biblatex_values.specs.Gender.{is_female}
use Rattle.biblatex_values.proofs.gender.are_female.Given as goal

abbrev pub invariant-loop-gender : goal.invariant-loop-gender
invariant-loop-gender l = list_all is_female (take l.gender-index l.fn.list) ≡ true
