use Rattle.std.proofs.Common.{◌∷◌, drop, map}
use Rattle.std.specs.List.{flat_map}
use Rattle.laws.specs.Characters.{line_feed}
use Rattle.rendering_output.specs.Writing.{WritesCharacters}
use Rattle.driver.specs.RenderedViews.{item_fields_view}
use Rattle.cite_output.specs.Output.{item_text}
use Rattle.cite_output.proofs.output.push_items.Given as goal

abbrev pub invariant-loop-item : goal.invariant-loop-item
invariant-loop-item g l =
    (u : g.row.T.Denot) → WritesCharacters g.T.TextTarget.takes l.target (flat_map (item_text l.format) (map item_fields_view (drop l.item-index l.items))) u
    → WritesCharacters g.T.TextTarget.takes l.fn.target (line_feed ∷ flat_map (item_text l.format) (map item_fields_view l.items)) u
