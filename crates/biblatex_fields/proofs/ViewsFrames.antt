-- The frames of the code as lists of pieces.
use Rattle.std.proofs.Common.{◌≡◌, List, [], ◌∷◌, ◌++◌, map, length, Bor, refl, ap, ◌∙◌}
use Rattle.std.proofs.lemmas.List.{map_push}
use Rattle.biblatex_fields.specs.declared.openings.ResolvedPiece.{ResolvedPiece}
use Rattle.biblatex_fields.specs.Openings.{Resolved, resolved_piece_view}

abbrev pub Frame : Type 0
Frame = Bor (List ResolvedPiece)

-- the pieces of a frame
abbrev pub frame : Frame → List Resolved
frame ps = map resolved_piece_view ps.now

-- a frame put last, or taken from the end
pub frame_last : (longer fs : List Frame) (f : Frame) → longer ≡ fs ++ f ∷ [] → map frame longer ≡ map frame fs ++ frame f ∷ []
frame_last longer fs f e = ap (map frame) e ∙ map_push frame fs f

-- the same of a frame that begins with a piece
pub frame_split : (longer fs : List Frame) (f rest : Frame) (next : ResolvedPiece) → longer ≡ fs ++ f ∷ [] → f.now ≡ next ∷ rest.now
    → map frame longer ≡ map frame fs ++ (resolved_piece_view next ∷ frame rest) ∷ []
frame_split longer fs f rest next e split = frame_last longer fs f e ∙ ap (λ (ps : List (ResolvedPiece)). map frame fs ++ map resolved_piece_view ps ∷ []) split

no_pieces : (ps : List (ResolvedPiece)) → length ps ≡ 0 → ps ≡ []
no_pieces [] e = refl
no_pieces (p ∷ ps) e = absurd cc

-- the same of a frame without pieces
pub frame_empty : (longer fs : List Frame) (f : Frame) → longer ≡ fs ++ f ∷ [] → length f.now ≡ 0 → map frame longer ≡ map frame fs ++ [] ∷ []
frame_empty longer fs f e none = frame_last longer fs f e ∙ ap (λ (ps : List (ResolvedPiece)). map frame fs ++ map resolved_piece_view ps ∷ []) (no_pieces f.now none)
