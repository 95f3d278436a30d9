-- The beginning of a text: a byte order mark and an XML declaration, where they stand. Characters are numbers.
use Rattle.std.specs.Prelude.{◌≡◌, ℕ, Bool, true, false, not, ◌==◌, ◌&&◌, ◌||◌, List, [], ◌∷◌, ◌++◌, if◌then◌else◌, is_none, Option, Some, None, Result, Ok, Err, codes, ◌⊎◌}
use Rattle.std.specs.Str.{bytes_eq}
use Rattle.laws.specs.Results.{◌>>=◌}
use Rattle.laws.specs.Runs.{Bars}
use Rattle.laws.specs.Steps.{each}
use Rattle.laws.specs.Text.{text, lowered, is_filled}
use Rattle.xml_text.specs.Tokens.{At, Name, Piece, Literal, Referred, Attribute}
use Rattle.xml_text.specs.Reading.{Refusal, Reading, begun_at, word_at, begins, run_at}
use Rattle.xml_text.specs.Tags.{next_attribute_at}
use Rattle.xml_text.specs.Grammar.{AreAttributes}
use Rattle.xml_text.specs.declared.character.Class.TheVariants.{Space, Digit}
use Rattle.xml_text.specs.declared.fault.Fault.{Fault}
use Rattle.xml_text.specs.declared.fault.Fault.TheVariants.{Declaration, Encoding}

-- the characters of a piece, if it is no reference
abbrev pub literal_text : Piece → List ℕ
literal_text (Literal t) = t
literal_text (Referred r) = []

-- the characters of a value that is not empty and has no reference; of any other, none
abbrev pub literal_value : List Piece → List ℕ
literal_value [] = []
literal_value (p ∷ []) = literal_text p
literal_value (p ∷ q ∷ ps) = []

-- a name without a prefix
abbrev pub is_called : List ℕ → Name → Bool
is_called word name = is_none name.prefix && bytes_eq (text name.local) word

-- VersionNum: 1, a point and digits
unfoldable pub version_at : List ℕ → Reading (List ℕ)
version_at cs = do
  digits ← word_at (codes "1.") cs
  run_at Digit Digit digits

-- nothing follows what was read
abbrev pub is_whole : {X : Type 0} → Reading X → Bool
is_whole (Ok p) = not (is_filled p.1)
is_whole (Err r) = false

abbrev pub is_version : List ℕ → Bool
is_version value = is_whole (version_at value)

-- EncName: UTF-8 alone is read
abbrev pub is_utf8 : List ℕ → Bool
is_utf8 value = bytes_eq (lowered value) (codes "utf-8")

abbrev pub is_answer : List ℕ → Bool
is_answer value = bytes_eq (text value) (codes "yes") || bytes_eq (text value) (codes "no")

-- SDDecl
abbrev pub says_standalone : Attribute → Bool
says_standalone a = is_called (codes "standalone") a.name && is_answer (literal_value a.value)

abbrev pub extra_fault : List (At Attribute) → Option Fault
extra_fault [] = None
extra_fault (a ∷ others) = Some Declaration

-- SDDecl, or nothing
abbrev pub standalone_fault : List (At Attribute) → Option Fault
standalone_fault [] = None
standalone_fault (a ∷ others) = if says_standalone a.v then extra_fault others else Some Declaration

-- EncodingDecl, or nothing, and what may follow
abbrev pub encoding_fault : List (At Attribute) → Option Fault
encoding_fault [] = None
encoding_fault (a ∷ others) = if is_called (codes "encoding") a.v.name then (if is_utf8 (literal_value a.v.value) then standalone_fault others else Some Encoding)
    else standalone_fault (a ∷ others)

-- what is wrong in the declaration of these attributes: VersionInfo must be the first
abbrev pub declaration_fault : List (At Attribute) → Option Fault
declaration_fault [] = Some Declaration
declaration_fault (a ∷ others) = if is_called (codes "version") a.v.name && is_version (literal_value a.v.value) then encoding_fault others else Some Declaration

-- what follows the declaration, or its fault, where it begins
abbrev pub declared_at : List ℕ → List ℕ → Option Fault → Result (List ℕ) Refusal
declared_at start rest None = Ok rest
declared_at start rest (Some fault) = Err (fault, start)

-- XMLDecl, after its first word
unfoldable pub declaration_at : List ℕ → List ℕ → Result (List ℕ) Refusal
declaration_at start cs = do
  attributes ← each next_attribute_at cs
  rest ← word_at (codes "?>") attributes.1
  declared_at start rest (declaration_fault attributes.0)

-- a declaration where its first word and white space stand, else nothing
abbrev pub declaration_if : List ℕ → Result (List ℕ) Refusal → Result (List ℕ) Refusal
declaration_if start (Ok rest) = if begins Space rest then begun_at start (declaration_at start rest) else Ok start
declaration_if start (Err r) = Ok start

-- what follows a byte order mark, if there is one
abbrev pub after_mark : List ℕ → List ℕ
after_mark [] = []
after_mark (c ∷ cs) = if c == 0xFEFF then cs else c ∷ cs

-- what follows the byte order mark and the declaration
abbrev pub prolog_at : List ℕ → Result (List ℕ) Refusal
prolog_at cs = declaration_if (after_mark cs) (word_at (codes "<?xml") (after_mark cs))

-- ---- the same as relations

-- a byte order mark, or none
abbrev pub IsMark : List ℕ → List ℕ → Type 0
IsMark cs rest = (cs ≡ 0xFEFF ∷ rest) ⊎ ((cs ≡ rest) × Bars (λ c. c == 0xFEFF) cs)

-- XMLDecl
abbrev pub IsDeclaration : List ℕ → List ℕ → Type 0
IsDeclaration cs rest = (a : List ℕ) × (attributes : List (At Attribute)) × (cs ≡ codes "<?xml" ++ a) × (begins Space a ≡ true)
    × AreAttributes a attributes (codes "?>" ++ rest) × (declaration_fault attributes ≡ None)

-- the first word of a declaration and white space do not stand there
abbrev pub BeginsNoDeclaration : List ℕ → Type 0
BeginsNoDeclaration cs = (a : List ℕ) → cs ≡ codes "<?xml" ++ a → begins Space a ≡ false

-- a byte order mark and a declaration, each where it stands
abbrev pub IsProlog : List ℕ → List ℕ → Type 0
IsProlog cs rest = (a : List ℕ) × IsMark cs a × (IsDeclaration a rest ⊎ ((a ≡ rest) × BeginsNoDeclaration a))
