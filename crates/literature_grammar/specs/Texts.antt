-- The text of a selector as a grammar by cases. Each relation takes a text, what is spelled from its first character on, and the text that
-- follows. Characters are numbers.
use Rattle.std.specs.Prelude.{◌≡◌, ℕ, Bool, true, ◌==◌, ◌||◌, List, [], ◌∷◌, ◌++◌}
use Rattle.std.specs.Char.{is_ascii_alphanumeric, is_whitespace}
use Rattle.laws.specs.Characters.{exclamation_mark, ampersand, open_parenthesis, close_parenthesis, asterisk, comma, hyphen, colon, greater_than_sign, open_bracket, close_bracket, underscore, vertical_bar}
use Rattle.laws.specs.Runs.{AllPassTest, Bars}
use Rattle.laws.specs.Text.{is_filled}
use Rattle.literature.specs.Tokens.{Token, Name, Sign}
use Rattle.literature.specs.Trees.{Tree}
use Rattle.literature.specs.Grammar.{IsExpression}

-- A name has ASCII letters, digits, hyphens and underscores.
abbrev pub is_of_name : ℕ → Bool
is_of_name c = is_ascii_alphanumeric c || c == hyphen || c == underscore

-- The signs are * | & > ! : , [ ] ( and ).
abbrev pub is_sign : ℕ → Bool
is_sign c =
    c == asterisk || c == vertical_bar || c == ampersand || c == greater_than_sign || c == exclamation_mark || c == colon
    || c == comma || c == open_bracket || c == close_bracket || c == open_parenthesis || c == close_parenthesis

-- All white space that stands there is passed over.
abbrev pub IsAfterBlanks : List ℕ → List ℕ → Type 0
IsAfterBlanks cs rest = (blanks : List ℕ) × (cs ≡ blanks ++ rest) × AllPassTest is_whitespace blanks × Bars is_whitespace rest

-- A token is a name, which is all characters of names that stand there, one at least; or it is a sign.
abbrev pub IsToken : List ℕ → Token → List ℕ → Type 0
IsToken cs (Name n) rest = (cs ≡ n ++ rest) × AllPassTest is_of_name n × Bars is_of_name rest × (is_filled n ≡ true)
IsToken cs (Sign c) rest = (cs ≡ c ∷ rest) × (is_sign c ≡ true)

-- No token begins there.
abbrev pub BeginsNoToken : List ℕ → Type 0
BeginsNoToken cs = (t : Token) (rest : List ℕ) → IsToken cs t rest → ⊥

-- Tokens stand one after the other, each after white space or none, up to where none begins.
abbrev pub AreTokens : List ℕ → List Token → Type 0
AreTokens cs [] = (a : List ℕ) × IsAfterBlanks cs a × BeginsNoToken a
AreTokens cs (t ∷ ts) = (a : List ℕ) × (b : List ℕ) × IsAfterBlanks cs a × IsToken a t b × AreTokens b ts

-- The text spells a tree: an expression for it begins with the first token. What follows the expression means nothing.
abbrev pub IsSpelled : List ℕ → Tree → Type 0
IsSpelled cs x = (ts : List Token) × (rest : List Token) × AreTokens cs ts × IsExpression ts x rest
