use Rattle.std.proofs.Common.{◌≡◌, ◌++◌, take}
use Rattle.std.specs.List.{flat_map}
use Rattle.laws.specs.Text.{characters}
use Rattle.literature_numbers.specs.PageViews.{page_part_view}
use Rattle.rendering_ranges.specs.Ranges.{part_in}
use Rattle.rendering_ranges.proofs.ranges.push_parts.Given as goal

abbrev pub invariant-loop-part : goal.invariant-loop-part
invariant-loop-part l = characters l.out ≡ characters l.initial.out ++ flat_map (λ p. part_in l.format (page_part_view p)) (take l.part-index l.parts)
