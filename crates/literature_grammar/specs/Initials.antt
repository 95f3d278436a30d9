-- The initials of given names, as relations by cases on characters and grapheme clusters. Characters are numbers.
use Rattle.std.specs.Prelude.{◌≡◌, ℕ, ◌≤◌, Bool, true, false, not, ◌==◌, ◌||◌, ◌⊎◌, List, [], ◌∷◌, ◌++◌, length}
use Rattle.std.specs.Char.{is_whitespace}
use Rattle.std.specs.Str.{chars}
use Rattle.laws.specs.Characters.{hyphen}
use Rattle.laws.specs.Runs.{AllPassTest, Bars}
use Rattle.laws.specs.Text.{text}
use Rattle.unicode_segmentation.specs.Grapheme.{graphemes}
use Rattle.literature_values.specs.Initials.{Run}

-- white space or a hyphen
abbrev pub is_apart : ℕ → Bool
is_apart c = is_whitespace c || c == hyphen

-- any other character
abbrev pub is_of_run : ℕ → Bool
is_of_run c = not (is_apart c)

-- A hyphen stands in the text exactly where this is true.
abbrev pub HasHyphen : List ℕ → Bool → Type 0
HasHyphen [] is = is ≡ false
HasHyphen (c ∷ cs) is = ((c ≡ hyphen) × (is ≡ true)) ⊎ ((c ≡ hyphen → ⊥) × HasHyphen cs is)

-- The runs of a name without white space and hyphens, each with whether a hyphen stands between it and what is before it.
abbrev pub AreRuns : List ℕ → List Run → Type 0
AreRuns cs [] = AllPassTest is_apart cs
AreRuns cs (r ∷ rs) = (g : List ℕ) × (rest : List ℕ) × (cs ≡ g ++ (r.name ++ rest)) × AllPassTest is_apart g × HasHyphen g r.is_hyphenated
    × (1 ≤ length r.name) × AllPassTest is_of_run r.name × Bars is_of_run rest × AreRuns rest rs

-- The first grapheme cluster of a text, or nothing. A cluster is the bytes that spell it.
abbrev pub IsCluster : List ℕ → List ℕ → Type 0
IsCluster cs k = ((graphemes true (text cs) ≡ []) × (k ≡ [])) ⊎ ((bs : List ℕ) × (more : List (List ℕ)) × (graphemes true (text cs) ≡ bs ∷ more) × (k ≡ chars bs))

-- Nothing, or characters of which the last is no white space.
abbrev pub EndsFilled : List ℕ → Type 0
EndsFilled [] = Unit {0}
EndsFilled (c ∷ []) = is_whitespace c ≡ false
EndsFilled (c ∷ d ∷ cs) = EndsFilled (d ∷ cs)

-- A delimiter as what stands before the white space at its end, and this white space.
abbrev pub IsDelimiter : List ℕ → List ℕ → List ℕ → Type 0
IsDelimiter cs kept gap = (cs ≡ kept ++ gap) × EndsFilled kept × AllPassTest is_whitespace gap

-- What is printed between two initials: a hyphen, where hyphens are asked for and one stands there, else the delimiter's white space.
abbrev pub IsBetween : Bool → Bool → List ℕ → List ℕ → Type 0
IsBetween true true gap cs = cs ≡ hyphen ∷ []
IsBetween true false gap cs = cs ≡ gap
IsBetween false is_hyphenated gap cs = cs ≡ gap

-- The initials of runs: of each its first cluster and the delimiter without its white space, and what is between each two.
abbrev pub AreInitialsOf : Bool → List ℕ → List ℕ → List Run → List ℕ → Type 0
AreInitialsOf with_hyphen kept gap [] cs = cs ≡ []
AreInitialsOf with_hyphen kept gap (r ∷ []) cs = (k : List ℕ) × IsCluster r.name k × (cs ≡ k ++ kept)
AreInitialsOf with_hyphen kept gap (r ∷ q ∷ rs) cs = (k : List ℕ) × (m : List ℕ) × (more : List ℕ) × IsCluster r.name k × IsBetween with_hyphen q.is_hyphenated gap m
    × AreInitialsOf with_hyphen kept gap (q ∷ rs) more × (cs ≡ (k ++ kept) ++ (m ++ more))

-- The initials of a given name.
abbrev pub AreInitials : Bool → List ℕ → List ℕ → List ℕ → Type 0
AreInitials with_hyphen delimiter name cs = (kept : List ℕ) × (gap : List ℕ) × (rs : List Run) × IsDelimiter delimiter kept gap × AreRuns name rs
    × AreInitialsOf with_hyphen kept gap rs cs
