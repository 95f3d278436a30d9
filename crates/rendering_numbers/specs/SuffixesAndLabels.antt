-- Year suffixes, and the labels of entries.
use Rattle.std.specs.Prelude.{ℕ, ◌+◌, ◌-◌, ◌/◌, ◌%◌, nat_lt, List, [], ◌∷◌, ◌++◌, take, if◌then◌else◌, Option, Some, None, ℤ, pos, negsuc}
use Rattle.std.specs.List.{flat_map}
use Rattle.laws.specs.Characters.{plus_sign, lower_a}
use Rattle.literature_values.specs.PersonViews.{Named}
use Rattle.date_parts.specs.Written.{padded}

-- the letter at an index from zero
abbrev pub letter_at : ℕ → ℕ
letter_at n = lower_a + n

-- a to z, then two letters from aa on; past zz, the index 701, the first is no letter
abbrev pub year_suffix_text : ℕ → List ℕ
year_suffix_text n = if nat_lt n 26 then letter_at n ∷ [] else letter_at (n / 26 - 1) ∷ letter_at (n % 26) ∷ []

-- the first characters of a family name
abbrev pub initial_letters : ℕ → Named → List ℕ
initial_letters n p = take n p.name

-- The names of people in a label: of one the first letters, of two or three the first letter of each, of more the first letters of
-- the first, and a plus sign.
abbrev pub people_label : ℕ → List Named → List ℕ
people_label n [] = []
people_label n (p ∷ []) = initial_letters n p
people_label n (p ∷ q ∷ r ∷ s ∷ ps) = initial_letters n p ++ plus_sign ∷ []
people_label n ps = flat_map (initial_letters 1) ps

-- the authors, else the editors, else the title
abbrev pub name_label : ℕ → List Named → List Named → List ℕ → List ℕ
name_label n [] [] title = take n title
name_label n [] (p ∷ ps) title = people_label n (p ∷ ps)
name_label n (p ∷ ps) editors title = people_label n (p ∷ ps)

-- the last two digits of a year, counted on from -100 below zero
abbrev pub year_label : Option ℤ → List ℕ
year_label None = []
year_label (Some (pos n)) = padded 2 (n % 100)
year_label (Some (negsuc n)) = padded 2 (99 - n % 100)

-- the label of an entry by its authors, its editors, its title and its year
abbrev pub citation_label : ℕ → List Named → List Named → List ℕ → Option ℤ → List ℕ
citation_label n authors editors title year = name_label n authors editors title ++ year_label year
