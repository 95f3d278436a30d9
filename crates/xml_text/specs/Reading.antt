-- Reading a text from the left: what stands there, and the text after it; or the first fault, and the text from where it stands on. A text
-- that ends within a token is refused where the token begins. Characters are numbers.
use Rattle.std.specs.Prelude.{ℕ, Bool, false, ◌==◌, List, [], ◌∷◌, length, if◌then◌else◌, is_ok, Some, None, Result, Ok, Err}
use Rattle.laws.specs.Results.{◌>>=◌}
use Rattle.laws.specs.Runs.{prefix_of, after}
use Rattle.laws.specs.Text.{text}
use Rattle.xml_text.specs.Character.{passes}
use Rattle.xml_text.specs.Tokens.{At, Name, Reference, Entity, Decimal, Hexadecimal}
use Rattle.xml_text.specs.declared.character.Class.{Class}
use Rattle.xml_text.specs.declared.character.Class.TheVariants.{Space, NameStart, NameCharacter, Digit, HexDigit}
use Rattle.xml_text.specs.declared.fault.Fault.{Fault}
use Rattle.xml_text.specs.declared.fault.Fault.TheVariants.{Unclosed, Unexpected}

-- a fault, and the text from where it stands on
abbrev pub Refusal : Type 0
Refusal = Fault × List ℕ

-- what was read, and what follows it
abbrev pub Reading : Type 0 → Type 0
Reading X = Result (X × List ℕ) Refusal

-- how many bytes are left
abbrev pub left_of : List ℕ → ℕ
left_of cs = length (text cs)

abbrev pub placed : {X : Type 0} → List ℕ → X → At X
placed cs x = record { v = x; left = left_of cs }

-- nothing that may stand here does: another character, or the end of the text
abbrev pub refused_at : {X : Type 0} → List ℕ → Result X Refusal
refused_at [] = Err (Unclosed, [])
refused_at (c ∷ cs) = Err (Unexpected, c ∷ cs)

-- a text that ends within what was begun is refused where that begins
abbrev pub moved : List ℕ → Refusal → Refusal
moved start (Unclosed, cs) = (Unclosed, start)
moved start (fault, cs) = (fault, cs)

abbrev pub begun_at : {X : Type 0} → List ℕ → Result X Refusal → Result X Refusal
begun_at start (Ok x) = Ok x
begun_at start (Err r) = Err (moved start r)

-- one character is wanted
abbrev pub character_at : ℕ → List ℕ → Result (List ℕ) Refusal
character_at wanted [] = Err (Unclosed, [])
character_at wanted (c ∷ cs) = if c == wanted then Ok cs else Err (Unexpected, c ∷ cs)

-- each character of a word is wanted in turn
abbrev pub word_at : List ℕ → List ℕ → Result (List ℕ) Refusal
word_at [] cs = Ok cs
word_at (w ∷ ws) cs = character_at w cs >>= λ rest. word_at ws rest

-- a word stands here
abbrev pub stands : List ℕ → List ℕ → Bool
stands word cs = is_ok (word_at word cs)

-- a character of the class stands here
abbrev pub begins : Class → List ℕ → Bool
begins class [] = false
begins class (c ∷ cs) = passes class c

-- what follows white space, if there is any
abbrev pub after_space : List ℕ → List ℕ
after_space cs = after (passes Space) cs

-- a run of the class, whose first character must be of another class
abbrev pub run_at : Class → Class → List ℕ → Reading (List ℕ)
run_at first class [] = Err (Unclosed, [])
run_at first class (c ∷ cs) = if passes first c then Ok (prefix_of (passes class) (c ∷ cs), after (passes class) (c ∷ cs)) else Err (Unexpected, c ∷ cs)

-- NCName: a name without a colon
abbrev pub plain_name_at : List ℕ → Reading (List ℕ)
plain_name_at cs = run_at NameStart NameCharacter cs

-- what was read is a whole name, or a prefix where a colon follows
abbrev pub local_at : List ℕ → List ℕ → Reading Name
local_at first [] = Ok (record { prefix = None; local = first }, [])
local_at first (c ∷ cs) = if c == 58 then (plain_name_at cs >>= λ n. Ok (record { prefix = Some first; local = n.0 }, n.1))
    else Ok (record { prefix = None; local = first }, c ∷ cs)

-- QName
unfoldable pub name_at : List ℕ → Reading Name
name_at cs = do
  first ← plain_name_at cs
  local_at first.0 first.1

-- a reference that was begun, up to its semicolon
abbrev pub ended_at : {X : Type 0} → X → List ℕ → Reading X
ended_at x cs = character_at 59 cs >>= λ rest. Ok (x, rest)

-- after an ampersand the name of an entity
unfoldable pub entity_at : List ℕ → Reading Reference
entity_at cs = do
  name ← plain_name_at cs
  ended_at (Entity name.0) name.1

-- after an ampersand and a number sign digits, or an x and hexadecimal digits
unfoldable pub decimal_at : List ℕ → Reading Reference
decimal_at cs = do
  digits ← run_at Digit Digit cs
  ended_at (Decimal digits.0) digits.1

unfoldable pub hexadecimal_at : List ℕ → Reading Reference
hexadecimal_at cs = do
  digits ← run_at HexDigit HexDigit cs
  ended_at (Hexadecimal digits.0) digits.1

abbrev pub number_at : List ℕ → Reading Reference
number_at [] = Err (Unclosed, [])
number_at (c ∷ cs) = if c == 120 then hexadecimal_at cs else decimal_at (c ∷ cs)

-- Reference, after its ampersand
abbrev pub reference_at : List ℕ → Reading Reference
reference_at [] = Err (Unclosed, [])
reference_at (c ∷ cs) = if c == 35 then number_at cs else entity_at (c ∷ cs)
