-- The tokens of a text. Characters are numbers.
use Rattle.std.specs.Prelude.{ℕ, zero, suc, Bool, ◌==◌, ◌||◌, List, [], ◌∷◌, length, if◌then◌else◌, Option, Some, None}
use Rattle.std.specs.Option.{option_map_or}
use Rattle.std.specs.Char.{is_ascii_alphanumeric}
use Rattle.laws.specs.Characters.{exclamation_mark, ampersand, open_parenthesis, close_parenthesis, asterisk, comma, hyphen, colon, greater_than_sign, open_bracket, close_bracket, underscore, vertical_bar}
use Rattle.laws.specs.Runs.{prefix_of, after}
use Rattle.texts.specs.Character.{passes}
use Rattle.texts.specs.declared.character.Class.TheVariants.{Blank}

-- a name, or a sign
pub data Token : Type 0 where
  Name : List ℕ → Token
  Sign : ℕ → Token

-- ASCII letters, digits, - and _
abbrev pub is_name_character : ℕ → Bool
is_name_character c = is_ascii_alphanumeric c || c == hyphen || c == underscore

-- * | & > ! : , [ ] ( )
abbrev pub is_sign : ℕ → Bool
is_sign c =
    c == asterisk || c == vertical_bar || c == ampersand || c == greater_than_sign || c == exclamation_mark || c == colon
    || c == comma || c == open_bracket || c == close_bracket || c == open_parenthesis || c == close_parenthesis

-- the longest name that stands here, or the sign, and what follows it; another character begins no token
abbrev pub token_here : List ℕ → Option (Token × List ℕ)
token_here [] = None
token_here (c ∷ cs) = if is_name_character c then Some (Name (prefix_of is_name_character (c ∷ cs)), after is_name_character (c ∷ cs))
    else (if is_sign c then Some (Sign c, cs) else None)

-- white space may stand before a token
unfoldable pub token_at : List ℕ → Option (Token × List ℕ)
token_at cs = token_here (after (passes Blank) cs)

-- at most n tokens
unfoldable pub tokens_below : ℕ → List ℕ → List Token
tokens_below zero cs = []
tokens_below (suc n) cs = option_map_or (λ p. p.0 ∷ tokens_below n p.1) (token_at cs) []

-- The tokens from the text's start on, up to a character that begins none. Each takes a character at least, so there
-- are no more tokens than characters.
unfoldable pub tokens : List ℕ → List Token
tokens cs = tokens_below (suc (length cs)) cs
