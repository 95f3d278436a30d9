use Rattle.std.proofs.Common.{◌≡◌, ◌++◌, take}
use Rattle.std.specs.List.{flat_map}
use Rattle.laws.specs.Text.{characters}
use Rattle.biblatex_values.specs.Pages.{more_text}
use Rattle.biblatex_values.proofs.pages.push_others.Given as goal

abbrev pub invariant-loop-range : goal.invariant-loop-range
invariant-loop-range l = characters l.text ≡ characters l.fn.text ++ flat_map more_text (take l.range-index l.fn.ranges)
