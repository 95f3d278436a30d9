-- Which refusal a text has, and where, read off the grammar alone. Characters are numbers.
use Rattle.std.specs.Prelude.{◌≡◌, ℕ, false, ◌==◌, List, [], ◌∷◌, ◌++◌, length}
use Rattle.laws.specs.Characters.{number_sign, open_parenthesis, comma, equals_sign, close_brace}
use Rattle.laws.specs.Text.{text as text_of}
use Rattle.biblatex_text.specs.Raw.{At, Item}
use Rattle.biblatex_text.specs.declared.token.Token.{Token}
use Rattle.biblatex_text.specs.declared.token.Token.TheVariants as tokens
use Rattle.biblatex_text.specs.declared.token.Fault.{Fault}
use Rattle.biblatex_text.specs.declared.token.Fault.TheVariants.{UnexpectedEof, Unexpected, Expected}
use Rattle.biblatex_grammar.specs.Items.{IsBibliography}

-- The text is that of some items.
abbrev pub IsAccepted : List ℕ → Type 0
IsAccepted cs = (is : List (At Item)) × IsBibliography cs is

-- The text begins some accepted text.
abbrev pub Begins : List ℕ → Type 0
Begins cs = (more : List ℕ) × IsAccepted (cs ++ more)

-- After the text the character may stand.
abbrev pub MayFollow : List ℕ → ℕ → Type 0
MayFollow cs c = Begins (cs ++ c ∷ [])

-- In a quoted piece, outside its braces, every character but a closing brace may stand.
abbrev pub IsInQuotes : List ℕ → Type 0
IsInQuotes cs = (c : ℕ) → (c == close_brace) ≡ false → MayFollow cs c

-- After a key or a field's value a comma may stand; in quotation marks it may too, as any character but a closing brace.
abbrev pub IsAfterKeyOrValue : List ℕ → Type 0
IsAfterKeyOrValue cs = MayFollow cs comma × (IsInQuotes cs → ⊥)

-- After a preamble's value a number sign may stand, and no comma.
abbrev pub IsAfterPreamble : List ℕ → Type 0
IsAfterPreamble cs = MayFollow cs number_sign × (MayFollow cs comma → ⊥)

-- After a field's name an equals sign may stand, and no comma.
abbrev pub IsAfterName : List ℕ → Type 0
IsAfterName cs = MayFollow cs equals_sign × (MayFollow cs comma → ⊥)

-- After a kind an opening parenthesis may stand, and no comma.
abbrev pub IsAfterKind : List ℕ → Type 0
IsAfterKind cs = MayFollow cs open_parenthesis × (MayFollow cs comma → ⊥)

-- the letter a
abbrev pub letter : ℕ
letter = 97

-- Where a kind, a field's name or a value must begin a letter may stand, and none of these marks.
abbrev pub IsBeforeIdentifier : List ℕ → Type 0
IsBeforeIdentifier cs = MayFollow cs letter × (MayFollow cs comma → ⊥) × (MayFollow cs number_sign → ⊥) × (MayFollow cs equals_sign → ⊥) × (MayFollow cs open_parenthesis → ⊥)

-- What is wanted after a text that some accepted text begins with.
abbrev pub IsWanted : List ℕ → Token → Type 0
IsWanted cs tokens.Comma = IsAfterKeyOrValue cs
IsWanted cs tokens.ClosingBrace = IsAfterPreamble cs
IsWanted cs tokens.Equals = IsAfterName cs
IsWanted cs tokens.OpeningBrace = IsAfterKind cs
IsWanted cs tokens.Identifier = IsBeforeIdentifier cs
IsWanted cs tokens.QuotationMark = ⊥
IsWanted cs tokens.DecimalPoint = ⊥

-- The longest prefix of a text that begins some accepted text, and what follows it.
abbrev pub IsLongestBeginning : List ℕ → List ℕ → List ℕ → Type 0
IsLongestBeginning text front rest = (text ≡ front ++ rest) × Begins front × ((c : ℕ) (more : List ℕ) → rest ≡ c ∷ more → MayFollow front c → ⊥)

-- The fault after that prefix: at the end of the text it ends too soon; a closing brace in quotation marks is unexpected; at
-- any other character something else is wanted.
abbrev pub IsFaultAt : List ℕ → List ℕ → Fault → Type 0
IsFaultAt front rest UnexpectedEof = rest ≡ []
IsFaultAt front [] (Unexpected token) = ⊥
IsFaultAt front (c ∷ more) (Unexpected token) = (c ≡ close_brace) × (token ≡ tokens.ClosingBrace) × IsInQuotes front
IsFaultAt front [] (Expected token) = ⊥
IsFaultAt front (c ∷ more) (Expected token) = IsWanted front token

-- A text that is not accepted is refused with this fault at this byte.
abbrev pub IsRefused : List ℕ → Fault → ℕ → Type 0
IsRefused text fault at = (IsAccepted text → ⊥) × ((front : List ℕ) × (rest : List ℕ) × IsLongestBeginning text front rest × IsFaultAt front rest fault × (at ≡ length (text_of front)))
