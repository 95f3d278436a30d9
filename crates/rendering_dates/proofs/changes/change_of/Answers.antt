use Rattle.std.proofs.Common.{map, refl, sym, ◌∙◌}
use Rattle.rendering_style.specs.Nodes.{DatePartChange}
use Rattle.rendering_style.specs.Views.{part_change_view}
use Rattle.rendering_dates.specs.Changes.{is_of}
use Rattle.rendering_dates.proofs.PartsFound.{found_at}
use Rattle.rendering_dates.proofs.changes.change_of.Goals as goal

pub returns-then-is_of : goal.returns-then-is_of
returns-then-is_of c =
    found_at (λ (x : DatePartChange). is_of c.args.form x.part) part_change_view (map part_change_view) (λ x xs. refl) c.args.changes.now c.loop-change.change-index c.change-item.result
    (part_change_view c.change-item.result) _ c.loop-change-test.true c.change-item.is refl (sym c.is_of.ensures ∙ c.if-is_of.true) c.loop-change.invariant
