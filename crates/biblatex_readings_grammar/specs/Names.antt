-- A person's name, as cuts of lists of words.
use Rattle.std.specs.Prelude.{◌≡◌, ℕ, Bool, true, false, ◌&&◌, ◌⊎◌, List, [], ◌∷◌, ◌++◌, codes}
use Rattle.std.specs.List.{AllZip}
use Rattle.ucd_category.specs.GeneralCategory.{general_category, general_category_eq}
use Rattle.ucd_category.specs.declared.GeneralCategory.TheVariants.{LowercaseLetter}
use Rattle.laws.specs.Characters.{comma, equals_sign}
use Rattle.biblatex_lists.specs.declared.styled_char.StyledChar.{StyledChar}
use Rattle.biblatex_lists.specs.StyledChars.{plain}
use Rattle.biblatex_lists.specs.Reading.{Named}
use Rattle.biblatex_readings_grammar.specs.Words.{Text, is_the, AllAnswer, IsFilled, AreWords, SayWords, IsCutAt, IsTrimmed}

-- A small word begins with a Normal letter of lower case.
abbrev pub begins_small : Text → Bool
begins_small [] = false
begins_small (s ∷ ss) = s.is_normal && general_category_eq (general_category s.c) LowercaseLetter

-- No word is small.
abbrev pub NoneIsSmall : List Text → Type 0
NoneIsSmall [] = Unit {0}
NoneIsSmall (w ∷ ws) = (begins_small w ≡ false) × NoneIsSmall ws

-- No word is small, but the last may be.
abbrev pub NoneIsSmallBeforeLast : List Text → Type 0
NoneIsSmallBeforeLast [] = Unit {0}
NoneIsSmallBeforeLast (w ∷ []) = Unit {0}
NoneIsSmallBeforeLast (w ∷ v ∷ ws) = (begins_small w ≡ false) × NoneIsSmallBeforeLast (v ∷ ws)

-- The first word is small.
abbrev pub BeginsSmall : List Text → Type 0
BeginsSmall [] = ⊥
BeginsSmall (w ∷ ws) = begins_small w ≡ true

-- The last word is small.
abbrev pub EndsSmall : List Text → Type 0
EndsSmall [] = ⊥
EndsSmall (w ∷ []) = begins_small w ≡ true
EndsSmall (w ∷ v ∷ ws) = EndsSmall (v ∷ ws)

-- Words up to the last small one, the last word apart, and the others.
abbrev pub IsLed : List Text → List Text → List Text → Type 0
IsLed ws [] name = (ws ≡ name) × NoneIsSmallBeforeLast name
IsLed ws (v ∷ vs) name = (ws ≡ (v ∷ vs) ++ name) × EndsSmall (v ∷ vs) × IsFilled name × NoneIsSmallBeforeLast name

-- A name by the words of its parts: given names, prefix, name and suffix.
abbrev pub AreSaid : List Text → List Text → List Text → List Text → Named → Type 0
AreSaid given prefix name suffix n = SayWords given n.given_name × SayWords prefix n.prefix × SayWords name n.name × SayWords suffix n.suffix

-- A name without commas. Without a small word before the last word, the last word is the name and the others are given; else the prefix goes
-- from the first small word to the last one before the last word, with the given words before and the name after it.
abbrev pub IsUnparted : List Text → Named → Type 0
IsUnparted ws n = ((ws ≡ []) × AreSaid [] [] [] [] n)
    ⊎ (((given : List Text) × (w : Text) × (ws ≡ given ++ w ∷ []) × NoneIsSmall given × AreSaid given [] (w ∷ []) [] n)
    ⊎ ((given : List Text) × (prefix : List Text) × (name : List Text) × (ws ≡ given ++ (prefix ++ name)) × NoneIsSmall given × BeginsSmall prefix × EndsSmall prefix
    × IsFilled name × NoneIsSmallBeforeLast name × AreSaid given prefix name [] n))

-- The words of texts, one after the other.
abbrev pub AreWordsOf : List Text → List Text → Type 0
AreWordsOf [] ws = ws ≡ []
AreWordsOf (p ∷ ps) ws = (us : List Text) × (vs : List Text) × AreWords p us × AreWordsOf ps vs × (ws ≡ us ++ vs)

-- What stands between commas: the name; the name and what is given; or the name, the suffix and what is given. In a name with commas the
-- words of the first part up to the last small one, the last word apart, are the prefix.
abbrev pub ArePartsOf : List Text → Named → Type 0
ArePartsOf [] n = ⊥
ArePartsOf (p ∷ []) n = (ws : List Text) × AreWords p ws × IsUnparted ws n
ArePartsOf (p ∷ q ∷ []) n = (ws : List Text) × (prefix : List Text) × (name : List Text) × (given : List Text) × AreWords p ws × IsLed ws prefix name × AreWords q given
    × AreSaid given prefix name [] n
ArePartsOf (p ∷ q ∷ r ∷ ps) n = (ws : List Text) × (prefix : List Text) × (name : List Text) × (suffix : List Text) × (given : List Text) × AreWords p ws
    × IsLed ws prefix name × AreWords q suffix × AreWordsOf (r ∷ ps) given × AreSaid given prefix name suffix n

-- A key and its value: before the first equals sign of a text the key, without the white space at its ends, which is not empty, and after it
-- the words of the value.
abbrev pub IsPair : Text → List ℕ × List ℕ → Type 0
IsPair ss p = (k : Text) × (s : StyledChar) × (v : Text) × (key : Text) × (ws : List Text) × (ss ≡ k ++ s ∷ v) × AllAnswer (is_the equals_sign) false k
    × (is_the equals_sign s ≡ true) × IsTrimmed k key × IsFilled key × (p.0 ≡ plain key) × AreWords v ws × SayWords ws p.1

-- No pair has the key.
abbrev pub NoneHas : List ℕ → List (List ℕ × List ℕ) → Type 0
NoneHas key [] = Unit {0}
NoneHas key (p ∷ ps) = (p.0 ≡ key → ⊥) × NoneHas key ps

-- The value of the last pair with a key, or nothing.
abbrev pub IsLastOf : List ℕ → List (List ℕ × List ℕ) → List ℕ → Type 0
IsLastOf key ps v = (NoneHas key ps × (v ≡ [])) ⊎ ((before : List (List ℕ × List ℕ)) × (behind : List (List ℕ × List ℕ)) × (ps ≡ before ++ (key, v) ∷ behind) × NoneHas key behind)

-- The name that keys and values give.
abbrev pub SayPairs : List (List ℕ × List ℕ) → Named → Type 0
SayPairs ps n = IsLastOf (codes "family") ps n.name × IsLastOf (codes "given") ps n.given_name × IsLastOf (codes "prefix") ps n.prefix × IsLastOf (codes "suffix") ps n.suffix

-- The name of a text: where all texts between its commas are keys and values, what these give, else what the texts are as parts.
abbrev pub IsName : Text → Named → Type 0
IsName ss n = (ts : List Text) × IsCutAt (is_the comma) ss ts
    × (((ps : List (List ℕ × List ℕ)) × AllZip IsPair ts ps × SayPairs ps n) ⊎ (((ps : List (List ℕ × List ℕ)) → AllZip IsPair ts ps → ⊥) × ArePartsOf ts n))
