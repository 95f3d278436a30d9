use Rattle.std.proofs.Common.{◌≡◌, length}
use Rattle.std.specs.List.{fold}
use Rattle.rendering_tree.specs.Trees.{take_token, tree_of}
use Rattle.rendering_building.specs.Building.{IsWithin, nest_of}
use Rattle.rendering_page.specs.Views.{pieces_view}
use Rattle.rendering_building.proofs.builder.build.Given as goal

abbrev pub invariant-loop-piece : goal.invariant-loop-piece
invariant-loop-piece l = record {
  read : (fold take_token (nest_of l.builder) (pieces_view l.pieces.items)).inside ≡ tree_of (pieces_view l.fn.pieces.items);
  within : IsWithin l.builder;
}

abbrev pub decreases-loop-piece : goal.decreases-loop-piece
decreases-loop-piece l = length l.pieces.items
