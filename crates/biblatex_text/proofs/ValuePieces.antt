-- Reading the pieces of a value as a loop does.
use Rattle.std.proofs.Common.{◌≡◌, ℕ, List, [], ◌∷◌, ◌++◌, Some, None, Result, Ok, Err, refl, ap}
use Rattle.laws.specs.Results.{◌>>=◌}
use Rattle.laws.specs.Steps.{each}
use Rattle.biblatex_text.specs.Raw.{At, Piece}
use Rattle.biblatex_text.specs.Reading.{Refusal, offset}
use Rattle.biblatex_text.specs.Value.{piece_at, next_piece_at, value_at}
use Rattle.biblatex_text.specs.Views.{prepended}
use Rattle.biblatex_text.proofs.ReadingShorter.{pieces_shorten}
use Rattle.biblatex_text.proofs.FieldsRepeats.{prepended-some, prepended-none, prepended-err}

abbrev pub whole : (n start : ℕ) → Result (List (At Piece) × List ℕ) Refusal → Result (At (List (At Piece)) × List ℕ) Refusal
whole n start read = read >>= λ p. Ok (record { v = p.0; start = start; end = offset n p.1 }, p.1)

-- a value that begins at an offset, of the pieces so far and those that follow
abbrev pub value_onto : (n start : ℕ) → List (At Piece) → List ℕ → Result (At (List (At Piece)) × List ℕ) Refusal
value_onto n start before cs = whole n start (prepended before (each (next_piece_at n) cs))

pub value_onto-first : (n : ℕ) (cs rest : List ℕ) (x : At Piece) → piece_at n cs ≡ Ok (x, rest) → value_onto n (offset n cs) (x ∷ []) rest ≡ value_at n cs
unfolding value_at
value_onto-first n cs rest x is = rw is (joined (each (next_piece_at n) rest))
  where
    joined : (r : Result (List (At Piece) × List ℕ) Refusal) → whole n (offset n cs) (prepended (x ∷ []) r) ≡ (r >>= λ p. Ok (record { v = x ∷ p.0; start = offset n cs; end = offset n p.1 }, p.1))
    joined (Ok p) = refl
    joined (Err f) = refl

pub value_onto-some : (n start : ℕ) (before : List (At Piece)) (cs rest : List ℕ) (x : At Piece) → next_piece_at n cs ≡ Ok (Some x, rest) → value_onto n start before cs ≡ value_onto n start (before ++ x ∷ []) rest
value_onto-some n start before cs rest x is = ap (whole n start) (prepended-some (next_piece_at n) (pieces_shorten n) before cs rest x is)

pub value_onto-none : (n start : ℕ) (before : List (At Piece)) (cs rest : List ℕ) → next_piece_at n cs ≡ Ok (None, rest) → value_onto n start before cs ≡ Ok (record { v = before; start = start; end = offset n rest }, rest)
value_onto-none n start before cs rest is = ap (whole n start) (prepended-none (next_piece_at n) before cs rest is)

pub value_onto-err : (n start : ℕ) (before : List (At Piece)) (cs : List ℕ) (f : Refusal) → next_piece_at n cs ≡ Err f → value_onto n start before cs ≡ Err f
value_onto-err n start before cs f is = ap (whole n start) (prepended-err (next_piece_at n) before cs f is)
