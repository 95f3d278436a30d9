-- What an ordinary field is made of: tokens from the left, and which dollar signs have a partner.
use Rattle.std.specs.Prelude.{ℕ, Bool, true, false, ◌==◌, List, [], ◌∷◌, ◌++◌, if◌then◌else◌, Option, Some, None, Result, Ok, Err}
use Rattle.laws.specs.Characters.{dollar_sign, hyphen, backslash, open_brace, close_brace, tilde}
use Rattle.laws.specs.Results.{◌>>=◌}
use Rattle.laws.specs.Runs.{prefix_of, after}
use Rattle.laws.specs.Steps.{each}
use Rattle.biblatex_tex.specs.Character.{passes}
use Rattle.biblatex_tex.specs.declared.character.Class.TheVariants.{Blank, Letter, Hyphen, Plain}
use Rattle.biblatex_tex.specs.declared.error.ContentError.{ContentError}
use Rattle.biblatex_tex.specs.declared.error.ContentError.TheVariants.{MalformedCommand}

pub data Token : Type 0 where
  Text : List ℕ → Token
  Hyphens : List ℕ → Token
  Tie : Token
  Open : Bool → Token
  Close : Token
  Dollar : Bool → Token
  Sign : ℕ → Token
  Command : List ℕ → List ℕ → Token

-- a token as it was written
abbrev pub written : Token → List ℕ
written (Text cs) = cs
written (Hyphens cs) = cs
written Tie = tilde ∷ []
written (Open is_command) = open_brace ∷ []
written Close = close_brace ∷ []
written (Dollar has_partner) = dollar_sign ∷ []
written (Sign c) = backslash ∷ c ∷ []
written (Command name blanks) = backslash ∷ name ++ blanks

-- whether the text begins with a backslash
abbrev pub begins_command : List ℕ → Bool
begins_command [] = false
begins_command (c ∷ cs) = c == backslash

-- a longest run of letters and the blanks after it
abbrev pub named_at : List ℕ → Option Token × List ℕ
named_at cs = (Some (Command (prefix_of (passes Letter) cs) (prefix_of (passes Blank) (after (passes Letter) cs))), after (passes Blank) (after (passes Letter) cs))

-- after a backslash: a command's name, or one character
abbrev pub command_at : List ℕ → Result (Option Token × List ℕ) ContentError
command_at [] = Err MalformedCommand
command_at (c ∷ cs) = if passes Letter c then Ok (named_at (c ∷ cs)) else Ok (Some (Sign c), cs)

-- the token that stands at the start, if the text has not ended; a dollar sign counts as one without a partner
unfoldable pub token_at : List ℕ → Result (Option Token × List ℕ) ContentError
token_at [] = Ok (None, [])
token_at (c ∷ cs) = if c == backslash then command_at cs
    else (if c == open_brace then Ok (Some (Open (begins_command cs)), cs)
    else (if c == close_brace then Ok (Some Close, cs)
    else (if c == dollar_sign then Ok (Some (Dollar false), cs)
    else (if c == tilde then Ok (Some Tie, cs)
    else (if c == hyphen then Ok (Some (Hyphens (prefix_of (passes Hyphen) (c ∷ cs))), after (passes Hyphen) (c ∷ cs))
    else Ok (Some (Text (prefix_of (passes Plain) (c ∷ cs))), after (passes Plain) (c ∷ cs)))))))

-- all tokens of a text
unfoldable pub tokens_of : List ℕ → Result (List Token) ContentError
tokens_of cs = each token_at cs >>= λ p. Ok p.0

-- Whether the innermost open group has a dollar sign of its own further on; the list says so of each open group, the innermost first.
abbrev pub innermost : List Bool → Bool
innermost [] = false
innermost (b ∷ bs) = b

abbrev pub outer : List Bool → List Bool
outer [] = []
outer (b ∷ bs) = bs

abbrev pub dollars_before : Token → List Bool → List Bool
dollars_before (Open is_command) bs = outer bs
dollars_before Close bs = false ∷ bs
dollars_before (Dollar has_partner) bs = true ∷ outer bs
dollars_before t bs = bs

abbrev pub dollars_in : List Token → List Bool
dollars_in [] = []
dollars_in (t ∷ ts) = dollars_before t (dollars_in ts)

-- a dollar sign has a partner where the group that it stands in has a further one
abbrev pub partnered : Token → List Bool → Token
partnered (Dollar has_partner) bs = Dollar (innermost bs)
partnered t bs = t

-- the tokens, with their partners known
abbrev pub paired : List Token → List Token
paired [] = []
paired (t ∷ ts) = partnered t (dollars_in ts) ∷ paired ts

-- the tokens of a text, with their partners known
unfoldable pub paired_of : List ℕ → Result (List Token) ContentError
paired_of cs = tokens_of cs >>= λ ts. Ok (paired ts)
