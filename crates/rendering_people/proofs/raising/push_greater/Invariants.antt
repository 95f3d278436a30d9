use Rattle.std.proofs.Common.{◌≡◌, ◌++◌, take}
use Rattle.rendering_people.specs.Properties.{greater_forms}
use Rattle.rendering_people.proofs.raising.push_greater.Given as goal

abbrev pub invariant-loop-index : goal.invariant-loop-index
invariant-loop-index l = l.raised.items ≡ l.initial.raised.items ++ take l.index (greater_forms l.forms l.others)
