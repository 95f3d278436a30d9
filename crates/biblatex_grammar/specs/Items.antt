-- The items of a text, as a grammar by cases. Each relation takes the bytes of the whole text, a text, what is spelled from its
-- first character on, and the text that follows. Characters are numbers.
use Rattle.std.specs.Prelude.{◌≡◌, ℕ, ◌==◌, ◌⊎◌, List, [], ◌∷◌, length, codes}
use Rattle.laws.specs.Characters.{open_parenthesis, close_parenthesis, comma, equals_sign, at_sign, open_brace, close_brace}
use Rattle.laws.specs.Text.{text as text_of}
use Rattle.laws.specs.Runs.{Bars}
use Rattle.biblatex_text.specs.Raw.{At, Piece, Field, Entry, Item, nothing, definitions, an_entry, Raw, gathered}
use Rattle.biblatex_grammar.specs.Characters.{IsRun, IsWord, is_of_key}
use Rattle.biblatex_grammar.specs.Gaps.{IsGap, IsAfterGap, IsOutside}
use Rattle.biblatex_grammar.specs.Balanced.{IsBalanced, Remark}
use Rattle.biblatex_grammar.specs.Values.{Spells, IsAt, IsIdentifier, IsValue}

-- A field is a name, an equals sign and a value, with gaps between them.
abbrev pub IsField : ℕ → Spells Field
IsField n cs f rest = (a : List ℕ) × (b : List ℕ) × (c : List ℕ) × IsIdentifier n cs f.name a × IsAfterGap equals_sign a b × IsGap b c × IsValue n c f.value rest

-- Nothing more is spelled before what closes the item.
abbrev pub Closes : {X : Type 0} → ℕ → List X → List ℕ → List ℕ → Type 0
Closes closing [] cs rest = IsAfterGap closing cs rest
Closes closing (x ∷ xs) cs rest = ⊥

-- After a key or a value the item ends before `rest`; or a comma stands, and after it what Next says, which ends the item itself.
abbrev pub EndsOrGoesOn : {X : Type 0} → ℕ → List X → (List ℕ → Type 0) → List ℕ → List ℕ → Type 0
EndsOrGoesOn closing xs Next cs rest = Closes closing xs cs rest ⊎ ((a : List ℕ) × IsAfterGap comma cs a × Next a)

-- Fields are parted by commas up to what closes the item; a comma may stand after the last.
abbrev pub AreFields : ℕ → ℕ → Spells (List Field)
AreFields n closing cs [] rest = IsAfterGap closing cs rest
AreFields n closing cs (f ∷ fs) rest = (a : List ℕ) × (b : List ℕ) × IsGap cs a × IsField n a f b × EndsOrGoesOn closing fs (λ c. AreFields n closing c fs rest) b rest

-- An item stands in braces or in parentheses.
abbrev pub IsOpened : List ℕ → ℕ → List ℕ → Type 0
IsOpened cs closing rest = ((closing ≡ close_brace) × (cs ≡ open_brace ∷ rest)) ⊎ ((closing ≡ close_parenthesis) × (cs ≡ open_parenthesis ∷ rest))

-- A key is the longest run of its characters, perhaps none.
abbrev pub IsKey : ℕ → ℕ → Spells (At (List ℕ))
IsKey n closing cs key rest = IsRun (is_of_key closing) cs key.v rest × IsAt n cs key rest

-- An entry is a key, and then nothing, or a comma and fields.
abbrev pub IsEntry : ℕ → ℕ → Spells Entry
IsEntry n closing cs e rest = (a : List ℕ) × (b : List ℕ) × IsGap cs a × IsKey n closing a e.key b × EndsOrGoesOn closing e.fields (λ c. AreFields n closing c e.fields rest) b rest

-- A comment item is a text with balanced braces in braces; where no brace follows its kind it is nothing.
abbrev pub IsComment : List ℕ → List ℕ → Type 0
IsComment cs rest = ((a : List ℕ) × (t : List ℕ) × (cs ≡ open_brace ∷ a) × IsBalanced Remark close_brace a t rest) ⊎ ((cs ≡ rest) × Bars (λ c. c == open_brace) rest)

-- A preamble is a value, which says nothing.
abbrev pub IsPreamble : ℕ → ℕ → List ℕ → List ℕ → Type 0
IsPreamble n closing cs rest = (a : List ℕ) × (b : List ℕ) × (v : At (List (At Piece))) × IsGap cs a × IsValue n a v b × IsAfterGap closing b rest

-- The kind is none of the three that have a meaning of their own.
abbrev pub IsOther : List ℕ → Type 0
IsOther kind = (IsWord (codes "comment") kind → ⊥) × (IsWord (codes "preamble") kind → ⊥) × (IsWord (codes "string") kind → ⊥)

-- What a kind has after it: nothing is said by comments and preambles, strings define abbreviations, all other kinds are entries.
abbrev pub IsBody : ℕ → At (List ℕ) → Spells Item
IsBody n kind cs nothing rest = (IsWord (codes "comment") kind.v × IsComment cs rest)
    ⊎ (IsWord (codes "preamble") kind.v × ((a : List ℕ) × (closing : ℕ) × IsOpened cs closing a × IsPreamble n closing a rest))
IsBody n kind cs (definitions fs) rest = IsWord (codes "string") kind.v × ((a : List ℕ) × (closing : ℕ) × IsOpened cs closing a × AreFields n closing a fs rest)
IsBody n kind cs (an_entry e) rest = IsOther kind.v × (e.kind ≡ kind) × ((a : List ℕ) × (closing : ℕ) × IsOpened cs closing a × IsEntry n closing a e rest)

-- An item is an at sign, a kind and what the kind has after it, with gaps between them.
abbrev pub IsItem : ℕ → Spells (At Item)
IsItem n cs i rest = (a : List ℕ) × (b : List ℕ) × (c : List ℕ) × (d : List ℕ) × (kind : At (List ℕ))
    × (cs ≡ at_sign ∷ a) × IsGap a b × IsIdentifier n b kind c × IsGap c d × IsBody n kind d i.v rest × IsAt n cs i rest

-- A text is items with skipped text before, between and after them.
abbrev pub AreItems : ℕ → List ℕ → List (At Item) → Type 0
AreItems n cs [] = IsOutside cs []
AreItems n cs (i ∷ is) = (a : List ℕ) × (b : List ℕ) × IsOutside cs a × IsItem n a i b × AreItems n b is

-- The whole text is these items.
abbrev pub IsBibliography : List ℕ → List (At Item) → Type 0
IsBibliography cs is = AreItems (length (text_of cs)) cs is

-- The text holds these entries and these abbreviations.
abbrev pub Holds : List ℕ → Raw → Type 0
Holds cs raw = (is : List (At Item)) × IsBibliography cs is × (raw ≡ gathered is)
