-- Letters that are sorted among others, though they are not made of a letter and marks.
use Rattle.std.specs.Prelude.{ℕ, ◌==◌, List, [], ◌∷◌, codes, find}
use Rattle.std.specs.Option.{option_map_or}

-- the text that a character has in a table; no text where it has none
abbrev pub text_for : List (ℕ × List ℕ) → ℕ → List ℕ
text_for rows c =
    option_map_or (λ (r : ℕ × List ℕ). r.1) (find (λ (r : ℕ × List ℕ). c == r.0) rows) []

-- letters with a stroke, a dot or another form, and those without: đ ð ħ ŀ ł ø
abbrev pub stroked_letters : List (ℕ × List ℕ)
stroked_letters =
    (273, codes "d") ∷ (240, codes "d") ∷ (295, codes "h")
    ∷ (320, codes "l") ∷ (322, codes "l") ∷ (248, codes "o") ∷ []

-- two letters in one, and both: æ ǆ ǳ ĳ ǉ ǌ œ
abbrev pub ligatures : List (ℕ × List ℕ)
ligatures =
    (230, codes "ae") ∷ (454, codes "dz") ∷ (499, codes "dz") ∷ (307, codes "ij")
    ∷ (457, codes "lj") ∷ (460, codes "nj") ∷ (339, codes "oe") ∷ []

-- the last of all characters
abbrev pub last : ℕ
last = 1114111

-- letters that stand after all that begins with another one: ı after i, ŋ after n, ĸ after q, ŧ after t
abbrev pub later_letters : List (ℕ × List ℕ)
later_letters =
    (305, 105 ∷ last ∷ []) ∷ (331, 110 ∷ last ∷ [])
    ∷ (312, 113 ∷ last ∷ []) ∷ (359, 116 ∷ last ∷ []) ∷ []

-- by which letters a character of each table is sorted
abbrev pub stroked : ℕ → List ℕ
stroked = text_for stroked_letters

abbrev pub ligature : ℕ → List ℕ
ligature = text_for ligatures

abbrev pub after_letter : ℕ → List ℕ
after_letter = text_for later_letters

-- the first text, or the other one where that is empty
abbrev pub first_filled : List ℕ → List ℕ → List ℕ
first_filled [] other = other
first_filled (c ∷ cs) other = c ∷ cs

-- the letters by which a folded one is sorted; none where it is sorted by itself
unfoldable pub letters_for : ℕ → List ℕ
letters_for c = first_filled (stroked c) (first_filled (ligature c) (after_letter c))
