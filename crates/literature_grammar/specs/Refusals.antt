-- Which fault a selector has, read off its tokens and the grammar alone. Signs are characters, and characters are numbers.
use Rattle.std.specs.Prelude.{◌≡◌, ◌⊎◌, ℕ, List, [], ◌∷◌, ◌++◌, map, None, codes}
use Rattle.laws.specs.Characters.{asterisk, close_bracket, close_parenthesis, colon, vertical_bar}
use Rattle.literature_values.specs.EntryTypes.{type_called}
use Rattle.literature.specs.Tokens.{Token, Name, Sign}
use Rattle.literature.specs.Trees.{Tree, one_or_alternatives}
use Rattle.literature.specs.Grammar.{Bars, AreParted, within}
use Rattle.literature.specs.Reading.{Fault, MissingValue, MalformedAttribute, MissingComma, UnbalancedParens, UnknownEntryType, TooDeep}
use Rattle.literature_grammar.specs.Texts.{AreTokens}

-- a token, with the name of a type in place of any name
abbrev pub with_type : Token → Token
with_type (Name n) = Name (codes "article")
with_type (Sign c) = Sign c

-- The tokens are an expression where so many levels may be open, that of the expression among them, whatever their names are.
abbrev pub IsExpressionIn : ℕ → List Token → Type 0
IsExpressionIn levels ts = (x : Tree) × AreParted vertical_bar one_or_alternatives (within levels).IsAncestry (map with_type ts) x []

-- The tokens begin such an expression.
abbrev pub Begins : ℕ → List Token → Type 0
Begins levels ts = (more : List Token) × IsExpressionIn levels (ts ++ more)

-- After the tokens the token may stand, where 128 levels may be open in the expression.
abbrev pub MayFollow : List Token → Token → Type 0
MayFollow ts t = Begins 129 (ts ++ t ∷ [])

-- The longest prefix of tokens that begins such an expression, and what follows it.
abbrev pub IsLongestBeginning : List Token → List Token → List Token → Type 0
IsLongestBeginning ts front rest = (ts ≡ front ++ rest) × Begins 129 front × ((t : Token) (more : List Token) → rest ≡ t ∷ more → MayFollow front t → ⊥)

-- After the prefix a name stands for a type, as a star might, and it is that of no type.
abbrev pub IsUnknownAfter : List Token → List Token → List ℕ → List Token → Type 0
IsUnknownAfter ts front n rest = (ts ≡ front ++ Name n ∷ rest) × MayFollow front (Sign asterisk) × Bars colon rest × (type_called n ≡ None)

-- Each name that stands for a type is that of one.
abbrev pub AllAreKnown : List Token → Type 0
AllAreKnown ts = (front rest : List Token) (n : List ℕ) → IsUnknownAfter ts front n rest → ⊥

-- The first name that stands for a type and is that of none.
abbrev pub IsFirstUnknown : List Token → List ℕ → Type 0
IsFirstUnknown ts n = (front : List Token) × (rest : List Token) × IsUnknownAfter ts front n rest × AllAreKnown front

-- The next token may follow only where more levels may be open.
abbrev pub OpensTooMany : List Token → List Token → Type 0
OpensTooMany front [] = ⊥
OpensTooMany front (t ∷ more) = (levels : ℕ) × Begins levels (front ++ t ∷ [])

-- What is missing after a prefix that is no expression: an operand where a star may follow, a comma or a bracket where a closing bracket
-- may, a parenthesis where a closing one may, and the name of a list where a name may follow and no star.
abbrev pub IsMissing : List Token → Fault → Type 0
IsMissing front MissingValue = MayFollow front (Sign asterisk)
IsMissing front MissingComma = MayFollow front (Sign close_bracket)
IsMissing front UnbalancedParens = MayFollow front (Sign close_parenthesis)
IsMissing front MalformedAttribute = ((n : List ℕ) → MayFollow front (Name n)) × (MayFollow front (Sign asterisk) → ⊥)
IsMissing front (UnknownEntryType n) = ⊥
IsMissing front TooDeep = ⊥

-- After the longest prefix the next token opens a level too many; or it does not, and something is missing where the prefix is no
-- expression.
abbrev pub IsFaultAfter : List Token → List Token → Fault → Type 0
IsFaultAfter front rest fault = (OpensTooMany front rest × (fault ≡ TooDeep)) ⊎ ((OpensTooMany front rest → ⊥) × (IsExpressionIn 129 front → ⊥) × IsMissing front fault)

-- The fault of tokens is the leftmost: the first name of no type that stands for a type, else what is wrong after the longest prefix.
abbrev pub HasFault : List Token → Fault → Type 0
HasFault ts fault = ((n : List ℕ) × IsFirstUnknown ts n × (fault ≡ UnknownEntryType n))
    ⊎ (AllAreKnown ts × ((front : List Token) × (rest : List Token) × IsLongestBeginning ts front rest × IsFaultAfter front rest fault))

-- A text is refused with the fault of its tokens.
abbrev pub IsRefused : List ℕ → Fault → Type 0
IsRefused cs fault = (ts : List Token) × AreTokens cs ts × HasFault ts fault
