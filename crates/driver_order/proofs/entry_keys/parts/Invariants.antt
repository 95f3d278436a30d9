use Rattle.std.proofs.Common.{◌≡◌, map, take}
use Rattle.rendering_names.specs.Views.{resolved_options_view}
use Rattle.rendering_nodes.specs.Views.{walk_context}
use Rattle.rendering_style.specs.StyleViews.{style_view}
use Rattle.rendering_style.specs.Views.{sort_key_view}
use Rattle.driver_order.specs.EntryKeys.{part_by}
use Rattle.rendering_sorting.specs.Views.{parts_view}
use Rattle.driver_order.proofs.entry_keys.parts.Given as goal

abbrev pub invariant-loop-key : goal.invariant-loop-key
invariant-loop-key g l =
    parts_view l.parts ≡ map (part_by (walk_context (g.E.EntryLike.answers l.entry) l.walk) (style_view l.walk.style.now) (resolved_options_view l.options)) (map sort_key_view (take l.key-index l.keys))
