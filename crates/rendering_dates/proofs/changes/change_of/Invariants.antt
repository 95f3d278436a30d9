use Rattle.std.proofs.Common.{◌≡◌, drop, map, find}
use Rattle.rendering_style.specs.Nodes.{DatePartChange}
use Rattle.rendering_style.specs.Views.{part_change_view}
use Rattle.rendering_dates.specs.Changes.{is_of}
use Rattle.rendering_dates.proofs.changes.change_of.Given as goal

abbrev pub invariant-loop-change : goal.invariant-loop-change
invariant-loop-change l = find (λ (c : DatePartChange). is_of l.form c.part) (map part_change_view (drop l.change-index l.changes)) ≡ find (λ (c : DatePartChange). is_of l.form c.part) (map part_change_view l.changes)
