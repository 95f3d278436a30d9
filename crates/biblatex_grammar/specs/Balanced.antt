-- Texts with balanced braces. Characters are numbers.
use Rattle.std.specs.Prelude.{◌≡◌, ℕ, Bool, true, false, List, [], ◌∷◌, ◌++◌}
use Rattle.laws.specs.Characters.{double_quote, backslash, open_brace, close_brace}
use Rattle.biblatex_grammar.specs.Characters.{is_one_of}

-- A text by its braces: nothing; a character, then more; a backslash and the character that it takes, then more; braces around
-- a text, then more.
pub data Balanced : Type 0 where
  nothing : Balanced
  character : ℕ → Balanced → Balanced
  escaped : ℕ → Balanced → Balanced
  group : Balanced → Balanced → Balanced

-- how such a text is written
abbrev pub written : Balanced → List ℕ
written nothing = []
written (character c more) = c ∷ written more
written (escaped c more) = backslash ∷ c ∷ written more
written (group inner more) = open_brace ∷ (written inner ++ close_brace ∷ written more)

-- Where the text stands: in the braces of a comment item, in the braces of a piece, or in the quotation marks of a piece.
pub data Inside : Type 0 where
  Remark : Inside
  Braces : Inside
  Quotes : Inside

-- No brace stands for itself; in a piece a backslash does not either, and in quotation marks no quotation mark.
abbrev pub bars : Inside → ℕ → Bool
bars Remark = is_one_of (open_brace ∷ close_brace ∷ [])
bars Braces = is_one_of (open_brace ∷ close_brace ∷ backslash ∷ [])
bars Quotes = is_one_of (open_brace ∷ close_brace ∷ backslash ∷ double_quote ∷ [])

-- In a piece a backslash takes the next character with it.
abbrev pub takes_next : Inside → Bool
takes_next Remark = false
takes_next Braces = true
takes_next Quotes = true

-- Within braces of a quoted piece a quotation mark is text.
abbrev pub within_braces : Inside → Inside
within_braces Remark = Remark
within_braces Braces = Braces
within_braces Quotes = Braces

-- The text may stand there.
abbrev pub Stands : Inside → Balanced → Type 0
Stands inside nothing = Unit {0}
Stands inside (character c more) = (bars inside c ≡ false) × Stands inside more
Stands inside (escaped c more) = (takes_next inside ≡ true) × Stands inside more
Stands inside (group inner more) = Stands (within_braces inside) inner × Stands inside more

-- A text with balanced braces, then the mark that ends it, then what follows.
abbrev pub IsBalanced : Inside → ℕ → List ℕ → List ℕ → List ℕ → Type 0
IsBalanced inside mark cs t rest = (tree : Balanced) × Stands inside tree × (t ≡ written tree) × (cs ≡ t ++ mark ∷ rest)
