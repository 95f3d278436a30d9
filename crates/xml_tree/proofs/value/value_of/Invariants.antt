use Rattle.std.proofs.Common.{◌≡◌, drop, map}
use Rattle.laws.specs.Text.{characters}
use Rattle.xml_text.specs.Views.{piece_view}
use Rattle.xml_tree.specs.Folding.{folded}
use Rattle.xml_tree.specs.Values.{with_piece, value_of}
use Rattle.xml_tree.proofs.value.value_of.Given as goal

abbrev pub invariant-loop-piece : goal.invariant-loop-piece
invariant-loop-piece l = folded with_piece (characters l.value) (map piece_view (drop l.piece-index l.pieces)) ≡ value_of (map piece_view l.pieces)
