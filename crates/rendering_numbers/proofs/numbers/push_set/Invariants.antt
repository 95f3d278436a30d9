use Rattle.std.proofs.Common.{◌≡◌, ◌++◌, take}
use Rattle.std.specs.List.{flat_map}
use Rattle.laws.specs.Text.{characters}
use Rattle.rendering_locale.specs.Views.{ordinals_view}
use Rattle.rendering_numbers.specs.Numbers.{linked_by}
use Rattle.rendering_numbers.proofs.numbers.push_set.Given as goal

abbrev pub invariant-loop-linked : goal.invariant-loop-linked
invariant-loop-linked l = characters l.out ≡ characters l.initial.out ++ flat_map (linked_by (ordinals_view l.ordinals) l.form) (take l.linked-index l.numbers)
