-- What pieces are to texts that are joined.
use Rattle.std.specs.Prelude.{ℕ, Bool, true, false, not, ◌&&◌, List, [], ◌∷◌, if◌then◌else◌}
use Rattle.laws.specs.Text.{is_filled}
use Rattle.rendering_taxonomy.specs.declared.formatting.Formatting.{Formatting}
use Rattle.rendering_tree.specs.Tokens.{with_letters}
use Rattle.rendering_page.specs.Joints.{Joining, all_joined, is_gap, with_gap}
use Rattle.rendering_page.specs.Views.{with_piece}
use Rattle.rendering_page.specs.declared.piece.Piece.{Piece}
use Rattle.rendering_page.specs.declared.piece.Piece.TheVariants as pieces

-- whether something begins or ends with a piece
abbrev pub is_bound : Piece → Bool
is_bound (pieces.Text f w) = false
is_bound (pieces.Markup w) = false
is_bound (pieces.Link l) = false
is_bound (pieces.Transparent f n) = false
is_bound p = true

-- characters after all of it
abbrev pub with_all : Formatting → List ℕ → Joining → Joining
with_all f cs j =
    record {
      done = with_letters f cs (all_joined j);
      held = [];
      is_quoted = false;
      is_spaced = false;
      is_text = true;
    }

-- the rest of a text after its first character; or more of one
abbrev pub with_text : Formatting → List ℕ → Joining → Joining
with_text f [] j = j
with_text f (c ∷ cs) j =
    if not (is_filled cs) && is_gap c j then with_gap f c j else with_all f (c ∷ cs) j

-- a piece after all
abbrev pub with_piece_alone : Piece → Joining → Joining
with_piece_alone p j = record {
  done = with_piece (all_joined j) p;
  held = [];
  is_quoted = false;
  is_spaced = false;
  is_text = false;
}

-- a piece after a close quote if there is one
abbrev pub with_bounds : Piece → Joining → Joining
with_bounds p j =
    if j.is_quoted
    then record j { held = with_piece j.held p; is_text = false }
    else record j { done = with_piece j.done p; is_text = false }
