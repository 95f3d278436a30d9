-- Pieces with others between them, appended one after the other.
use Rattle.std.specs.Prelude.{Bool, true, false, List, [], ◌∷◌}
use Rattle.rendering_page.specs.Pieces.{Piece}
use Rattle.rendering_dates.specs.Dates.{joined_with, each_after}

-- Pieces with others between any two of them; if these are not the first ones, also before all.
abbrev pub joined_from : Bool → List Piece → List (List Piece) → List Piece
joined_from true between pss = joined_with between pss
joined_from false between pss = each_after between pss

-- whether the next ones are the first, after some
abbrev pub still_first : Bool → List (List Piece) → Bool
still_first first [] = first
still_first first (ps ∷ pss) = false

-- what stands before the next ones
abbrev pub before_next : Bool → List Piece → List Piece
before_next true between = []
before_next false between = between
