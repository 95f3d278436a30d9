-- What may stand between the parts of a text: white space and comments inside an item, skipped text outside.
-- Each relation takes a text, and the text that follows. Characters are numbers.
use Rattle.std.specs.Prelude.{◌≡◌, ℕ, Bool, true, not, ◌==◌, ◌||◌, ◌⊎◌, List, [], ◌∷◌, ◌++◌}
use Rattle.std.specs.Char.{is_whitespace}
use Rattle.laws.specs.Characters.{line_feed, percent_sign, at_sign}
use Rattle.laws.specs.Runs.{AllPassTest, Bars}

-- Part of a gap: one character, or a percent sign and what it hides.
pub data Part : Type 0 where
  character : ℕ → Part
  hidden : List ℕ → Part

-- A line feed ends the line, or the text ends with it.
abbrev pub EndsLine : List ℕ → List ℕ → Type 0
EndsLine cs rest = (cs ≡ line_feed ∷ rest) ⊎ ((cs ≡ []) × (rest ≡ []))

-- A percent sign hides all characters up to the end of its line.
abbrev pub IsHidden : List ℕ → List ℕ → List ℕ → Type 0
IsHidden cs t rest = (a : List ℕ) × (cs ≡ percent_sign ∷ (t ++ a)) × AllPassTest (λ c. not (c == line_feed)) t × EndsLine a rest

-- A character may stand there, or a percent sign with what it hides.
abbrev pub IsPart : (ℕ → Bool) → List ℕ → Part → List ℕ → Type 0
IsPart test cs (character c) rest = (cs ≡ c ∷ rest) × (test c ≡ true)
IsPart test cs (hidden t) rest = IsHidden cs t rest

-- Parts stand one after the other, and where they end no other begins.
abbrev pub AreParts : (ℕ → Bool) → List ℕ → List Part → List ℕ → Type 0
AreParts test cs [] rest = (cs ≡ rest) × Bars (λ c. c == percent_sign || test c) rest
AreParts test cs (p ∷ ps) rest = (a : List ℕ) × IsPart test cs p a × AreParts test a ps rest

-- Inside an item a gap is all the white space and all the comments that stand there, perhaps none.
abbrev pub IsGap : List ℕ → List ℕ → Type 0
IsGap cs rest = (ps : List Part) × AreParts is_whitespace cs ps rest

-- Outside items every character but an at sign is skipped; a percent sign hides an at sign too.
abbrev pub is_skipped : ℕ → Bool
is_skipped c = not (c == at_sign || c == percent_sign)

abbrev pub IsOutside : List ℕ → List ℕ → Type 0
IsOutside cs rest = (ps : List Part) × AreParts is_skipped cs ps rest

-- After a gap one character stands.
abbrev pub IsAfterGap : ℕ → List ℕ → List ℕ → Type 0
IsAfterGap mark cs rest = IsGap cs (mark ∷ rest)
