-- What is read of definitions instead of their pieces: as much as they give, in no more steps.
use Rattle.std.specs.Global.{Global}
use Rattle.std.specs.Prelude.{◌≡◌, ◌≤◌, ◌+◌, ℕ, suc, Bool, List, [], ◌∷◌, map, length, Vec, Option, Some, None, slice_get, Result, Ok, Err}
use Rattle.laws.specs.Results.{◌>>=◌}
use Rattle.biblatex_text.specs.Raw.{At, Piece, Field}
use Rattle.biblatex_text.specs.Views.{piece_view}
use Rattle.biblatex_content.specs.Styled.{Member}
use Rattle.biblatex_fields.specs.declared.openings.Opening.{Opening}
use Rattle.biblatex_fields.specs.declared.openings.Opening.TheVariants.{Whole, Part, SameAs}
use Rattle.biblatex_fields.specs.declared.openings.ResolvedPiece.{ResolvedPiece}
use Rattle.biblatex_fields.specs.Abbreviations.{Glossary, AreFlags, Sense, spelled, defined, sense, pieces_at}
use Rattle.biblatex_fields.specs.Refusals.{Refusal}
use Rattle.biblatex_fields.specs.Value.{Reading, in_order, by_sense, read, deep}

-- A piece of a definition, with the definition that its name opens, if this has been found.
pub record Resolved : Type 0 where
  pub raw : At Piece
  pub index : Option ℕ

abbrev pub resolved_piece_view : ResolvedPiece → Resolved
resolved_piece_view p = record { raw = piece_view p.raw; index = p.index }

-- a piece as it is written
abbrev pub unresolved : At Piece → Resolved
unresolved p = record { raw = p; index = None }

-- the pieces of the definition at an index, as they are written
abbrev pub unresolved_at : List Field → ℕ → List Resolved
unresolved_at ds index = map unresolved (pieces_at ds index)

-- what a piece stands for
abbrev pub sense_by : Glossary → At Piece → Option ℕ → Result Sense Refusal
sense_by g p None = sense g p
sense_by g p (Some index) = Ok (defined (pieces_at g.definitions index))

abbrev pub resolved_sense : Glossary → Resolved → Result Sense Refusal
resolved_sense g r = sense_by g r.raw r.index

-- what is read of it
abbrev pub resolved_read : Glossary → Bool → Resolved → Reading
resolved_read g is_verbatim r done = resolved_sense g r >>= λ s. by_sense (read g is_verbatim) is_verbatim r.raw.start r.raw.end s done

-- the pieces that a piece stands for
abbrev pub parts_in : Result Sense Refusal → List (At Piece)
parts_in (Ok (spelled cs)) = []
parts_in (Ok (defined ps)) = ps
parts_in (Err f) = []

abbrev pub parts : Glossary → At Piece → List (At Piece)
parts g p = parts_in (sense g p)

-- how many steps pieces take together
abbrev pub total : {X : Type 0} → (X → ℕ) → List X → ℕ
total f [] = 0
total f (x ∷ xs) = f x + total f xs

-- How many steps reading a piece takes at most as it is written: two, and those for the pieces that it stands for.
abbrev pub steps_of : Glossary → (At Piece → ℕ) → At Piece → ℕ
steps_of g inner p = 2 + total inner (parts g p)

unfoldable pub steps : Glossary → At Piece → ℕ
steps g p = deep (steps_of g) 0 (suc (length g.definitions)) p

abbrev pub resolved_steps : Glossary → Resolved → ℕ
resolved_steps g r = 2 + total (λ q. steps g q) (parts_in (resolved_sense g r))

-- Pieces that may be read instead of others: after anything they give the same in a field of this kind, in no more steps.
pub record Replacement (g : Glossary) (is_verbatim : Bool) (rs ss : List Resolved) : Type 0 where
  pub same : (done : List (At Member)) → in_order (resolved_read g is_verbatim) rs done ≡ in_order (resolved_read g is_verbatim) ss done
  pub fewer : total (resolved_steps g) rs ≤ total (resolved_steps g) ss

-- the pieces that stand for the definition at an index
abbrev pub resolved_pieces_view : Option (Vec ResolvedPiece Global) → List Resolved
resolved_pieces_view None = []
resolved_pieces_view (Some v) = map resolved_piece_view v.items

abbrev pub resolved_at : List (Vec ResolvedPiece Global) → ℕ → List Resolved
resolved_at vs index = resolved_pieces_view (slice_get vs index)

-- the pieces of each definition, with what their names open
pub record AreResolved (g : Glossary) (vs : List (Vec ResolvedPiece Global)) : Type 0 where
  pub flags : AreFlags g.flags g.definitions
  pub each : (is_verbatim : Bool) (index : ℕ) → Replacement g is_verbatim (resolved_at vs index) (unresolved_at g.definitions index)

-- those of the pieces of a definition that are read
abbrev pub pieces_in_opening : Option Opening → List Resolved → List Resolved
pieces_in_opening None rs = rs
pieces_in_opening (Some Whole) rs = rs
pieces_in_opening (Some (Part kept)) rs = map resolved_piece_view kept.items
pieces_in_opening (Some (SameAs index)) rs = rs

abbrev pub pieces_of_opening : List Opening → List (Vec ResolvedPiece Global) → ℕ → List Resolved
pieces_of_opening os vs index = pieces_in_opening (slice_get os index) (resolved_at vs index)

-- the definition of which pieces are read instead of those of the one at the index
abbrev pub target_in : Option Opening → ℕ → ℕ
target_in None index = index
target_in (Some Whole) index = index
target_in (Some (Part kept)) index = index
target_in (Some (SameAs other)) index = other

abbrev pub target : List Opening → ℕ → ℕ
target os index = target_in (slice_get os index) index

-- An opening for the definition at an index.
pub record Opens (g : Glossary) (is_verbatim : Bool) (vs : List (Vec ResolvedPiece Global)) (o : Opening) (index : ℕ) : Type 0 where
  pub itself : Replacement g is_verbatim (pieces_in_opening (Some o) (resolved_at vs index)) (unresolved_at g.definitions index)
  pub another : Replacement g is_verbatim (unresolved_at g.definitions (target_in (Some o) index)) (unresolved_at g.definitions index)

-- an opening for each definition
pub record AreOpenings (g : Glossary) (is_verbatim : Bool) (vs : List (Vec ResolvedPiece Global)) (os : List Opening) : Type 0 where
  pub long : length os ≡ length g.definitions
  pub each : (index : ℕ) (o : Opening) → slice_get os index ≡ Some o → Opens g is_verbatim vs o index

-- one piece, which opens the definition at the index
pub record OpensAlone (rs : List Resolved) (index : ℕ) : Type 0 where
  pub raw : At Piece
  pub alone : rs ≡ record { raw = raw; index = Some index } ∷ []
