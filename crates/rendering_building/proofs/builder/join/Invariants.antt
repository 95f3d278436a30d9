use Rattle.std.proofs.Common.{◌≡◌, ◌++◌, length}
use Rattle.laws.specs.Text.{characters}
use Rattle.rendering_building.specs.Building.{joined}
use Rattle.rendering_page.specs.Views.{words_view}
use Rattle.rendering_building.proofs.builder.join.Given as goal

abbrev pub invariant-loop-words : goal.invariant-loop-words
invariant-loop-words l = characters l.text ++ joined l.after.items ≡ words_view l.fn.first ++ joined l.fn.after.items

abbrev pub decreases-loop-words : goal.decreases-loop-words
decreases-loop-words l = length l.after.items
