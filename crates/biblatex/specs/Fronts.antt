-- The numbers that names begin with.
use Rattle.std.specs.Prelude.{◌≡◌, ℕ, ◌<◌, List, [], ◌∷◌, slice_index}
use Rattle.std.specs.Int.{w64, from_be_bytes}

-- the number that the first eight bytes of a text write, the first of them highest; bytes past its end count as zero
unfoldable pub front_of : List ℕ → ℕ
front_of text =
    from_be_bytes w64
    (slice_index text 0 ∷ slice_index text 1 ∷ slice_index text 2 ∷ slice_index text 3 ∷ slice_index text 4 ∷ slice_index text 5 ∷ slice_index text 6 ∷ slice_index text 7 ∷ [])

-- the numbers of a text are bytes
abbrev pub AreBytes : List ℕ → Type 0
AreBytes text = (index : ℕ) → slice_index text index < 256

-- a number is the one that a text of bytes begins with
abbrev pub IsFront : ℕ → List ℕ → Type 0
IsFront number text = (number ≡ front_of text) × AreBytes text
