-- Values: pieces parted by number signs. Each relation takes the bytes of the whole text, a text, what is spelled from its first
-- character on, and the text that follows. Characters are numbers.
use Rattle.std.specs.Prelude.{◌≡◌, ℕ, ◌+◌, true, ◌⊎◌, List, [], ◌∷◌, ◌++◌, length}
use Rattle.std.specs.Char.{is_ascii_digit}
use Rattle.laws.specs.Characters.{double_quote, number_sign, full_stop, open_brace, close_brace}
use Rattle.laws.specs.Runs.{AllPassTest}
use Rattle.laws.specs.Text.{is_filled, text as text_of}
use Rattle.biblatex_text.specs.Raw.{At, Piece, normal, abbreviation}
use Rattle.biblatex_grammar.specs.Characters.{is_of_identifier, is_first_of_identifier, IsRun, BeginsWith}
use Rattle.biblatex_grammar.specs.Gaps.{IsGap, IsAfterGap}
use Rattle.biblatex_grammar.specs.Balanced.{IsBalanced, Braces, Quotes}

-- a text, what it spells, and the text that follows
abbrev pub Spells : Type 0 → Type 1
Spells X = List ℕ → X → List ℕ → Type 0

-- The offset is that of the text: the bytes before it and its own are those of the whole text.
abbrev pub IsOffset : ℕ → ℕ → List ℕ → Type 0
IsOffset n offset cs = offset + length (text_of cs) ≡ n

-- Something has its range from where the text begins to where what follows it begins.
abbrev pub IsAt : {X : Type 0} → ℕ → List ℕ → At X → List ℕ → Type 0
IsAt n cs x rest = IsOffset n x.start cs × IsOffset n x.end rest

-- An identifier begins with a character that may begin one, and is the longest run of characters of identifiers.
abbrev pub IsIdentifier : ℕ → Spells (At (List ℕ))
IsIdentifier n cs name rest = BeginsWith is_first_of_identifier cs × IsRun is_of_identifier cs name.v rest × IsAt n cs name rest

-- A number has ASCII digits, one at least, and at most one point, which may stand first or last.
abbrev pub IsDigits : List ℕ → Type 0
IsDigits t = AllPassTest is_ascii_digit t

abbrev pub IsNumber : List ℕ → Type 0
IsNumber t = (IsDigits t × (is_filled t ≡ true)) ⊎ ((a : List ℕ) × (b : List ℕ) × (t ≡ a ++ full_stop ∷ b) × IsDigits a × IsDigits b × (is_filled (a ++ b) ≡ true))

-- A bare piece is a text where it is a number, else the name of an abbreviation.
abbrev pub IsBare : List ℕ → Piece → Type 0
IsBare t (normal s) = IsNumber t × (s ≡ t)
IsBare t (abbreviation s) = (IsNumber t → ⊥) × (s ≡ t)

-- A piece in braces is the text between them, and its range is without them.
abbrev pub IsBraced : ℕ → Spells (At Piece)
IsBraced n cs p rest = (a : List ℕ) × (t : List ℕ) × (cs ≡ open_brace ∷ a) × IsBalanced Braces close_brace a t rest × (p.v ≡ normal t) × IsAt n a p (close_brace ∷ rest)

-- A piece in quotation marks is the text between them, and its range is without them.
abbrev pub IsQuoted : ℕ → Spells (At Piece)
IsQuoted n cs p rest = (a : List ℕ) × (t : List ℕ) × (cs ≡ double_quote ∷ a) × IsBalanced Quotes double_quote a t rest × (p.v ≡ normal t) × IsAt n a p (double_quote ∷ rest)

-- A bare piece is the longest run of characters of identifiers, one at least.
abbrev pub IsBarePiece : ℕ → Spells (At Piece)
IsBarePiece n cs p rest = (t : List ℕ) × IsRun is_of_identifier cs t rest × (is_filled t ≡ true) × IsBare t p.v × IsAt n cs p rest

-- A piece stands in braces, in quotation marks, or bare.
abbrev pub IsPiece : ℕ → Spells (At Piece)
IsPiece n cs p rest = IsBraced n cs p rest ⊎ (IsQuoted n cs p rest ⊎ IsBarePiece n cs p rest)

-- Further pieces stand each after a number sign, with gaps around it.
abbrev pub AreFurther : ℕ → Spells (List (At Piece))
AreFurther n cs [] rest = cs ≡ rest
AreFurther n cs (p ∷ ps) rest = (a : List ℕ) × (b : List ℕ) × (c : List ℕ) × IsAfterGap number_sign cs a × IsGap a b × IsPiece n b p c × AreFurther n c ps rest

-- A value is a piece or more, and after the last of them stands no further number sign.
abbrev pub ArePieces : ℕ → Spells (List (At Piece))
ArePieces n cs [] rest = ⊥
ArePieces n cs (p ∷ ps) rest = (a : List ℕ) × IsPiece n cs p a × AreFurther n a ps rest × ((b : List ℕ) → IsAfterGap number_sign rest b → ⊥)

abbrev pub IsValue : ℕ → Spells (At (List (At Piece)))
IsValue n cs v rest = ArePieces n cs v.v rest × IsAt n cs v rest
