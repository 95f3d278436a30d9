use Rattle.std.proofs.Common.{◌≡◌, ◌++◌, map, drop}
use Rattle.laws.specs.Text.{characters}
use Rattle.rendering_tree.specs.Views.{answered_view, children_view}
use Rattle.driver_blocks.specs.Shown.{shown_people}
use Rattle.driver_blocks.proofs.shown.+shown.Given as goal

abbrev pub invariant-push_shown-loop-part : goal.invariant-push_shown-loop-part
invariant-push_shown-loop-part l =
    characters l.text ++ shown_people (map answered_view l.people) (children_view (drop l.part-index l.parts.0.items))
    ≡ characters l.fn.text ++ shown_people (map answered_view l.people) (children_view l.fn.parts.0.items)
