-- Reading tokens. Characters are numbers.
use Rattle.std.specs.Prelude.{ℕ, Bool, not, ◌==◌, ◌||◌, List, [], ◌∷◌, if◌then◌else◌, Option, Some, None, Ok, Err, codes}
use Rattle.std.specs.Str.{bytes_eq}
use Rattle.laws.specs.Results.{◌>>=◌}
use Rattle.laws.specs.Text.{lowered}
use Rattle.xml_text.specs.Character.{passes}
use Rattle.xml_text.specs.Tokens.{At, Token, Start, End, Characters, Refers, Section, Nothing}
use Rattle.xml_text.specs.Reading.{Reading, placed, begun_at, character_at, word_at, stands, begins, plain_name_at, reference_at}
use Rattle.xml_text.specs.Tags.{start_tag_at, end_tag_at}
use Rattle.xml_text.specs.declared.character.Class.TheVariants.{Legal, Space}
use Rattle.xml_text.specs.declared.ending.Ending.{Ending}
use Rattle.xml_text.specs.declared.ending.Ending.TheVariants.{Data, Comment, SectionText, Instruction}
use Rattle.xml_text.specs.declared.fault.Fault.TheVariants.{Unclosed, Unexpected, Doctype, ReservedTarget}

-- the words before which texts end: two hyphens in a comment, two brackets and an angle bracket in character data and CDATA sections, a
-- question mark and an angle bracket in processing instructions
abbrev pub ends_at_word : Ending → List ℕ → Bool
ends_at_word Data cs = stands (codes "<") cs || stands (codes "&") cs || stands (codes "]]>") cs
ends_at_word Comment cs = stands (codes "--") cs
ends_at_word SectionText cs = stands (codes "]]>") cs
ends_at_word Instruction cs = stands (codes "?>") cs

-- a text ends there: before such a word, or before what is no character of XML
abbrev pub is_end : Ending → List ℕ → Bool
is_end ending cs = ends_at_word ending cs || not (begins Legal cs)

-- a text may end before the character
abbrev pub may_begin_word : Ending → ℕ → Bool
may_begin_word Data c = c == 60 || c == 38 || c == 93
may_begin_word Comment c = c == 45
may_begin_word SectionText c = c == 93
may_begin_word Instruction c = c == 63

abbrev pub may_end : Ending → ℕ → Bool
may_end ending c = may_begin_word ending c || not (passes Legal c)

-- the characters before the first such place, and the text from it on
abbrev pub before_end : Ending → List ℕ → List ℕ
before_end ending [] = []
before_end ending (c ∷ cs) = if is_end ending (c ∷ cs) then [] else c ∷ before_end ending cs

abbrev pub from_end : Ending → List ℕ → List ℕ
from_end ending [] = []
from_end ending (c ∷ cs) = if is_end ending (c ∷ cs) then c ∷ cs else from_end ending cs

-- Comment, after its angle bracket, exclamation mark and first hyphen
unfoldable pub comment_at : List ℕ → Reading Token
comment_at cs = do
  body ← character_at 45 cs
  rest ← word_at (codes "-->") (from_end Comment body)
  Ok (Nothing, rest)

-- CDSect, after its angle bracket, exclamation mark and first bracket
unfoldable pub section_at : List ℕ → Reading Token
section_at cs = do
  body ← word_at (codes "CDATA[") cs
  rest ← word_at (codes "]]>") (from_end SectionText body)
  Ok (Section (before_end SectionText body), rest)

-- after an angle bracket and an exclamation mark a comment or a CDATA section; no document type declaration is read
abbrev pub exclaimed_at : List ℕ → List ℕ → Reading Token
exclaimed_at start [] = Err (Unclosed, [])
exclaimed_at start (c ∷ cs) = if c == 45 then comment_at cs
    else (if c == 91 then section_at cs
    else (if stands (codes "DOCTYPE") (c ∷ cs) then Err (Doctype, start) else Err (Unexpected, c ∷ cs)))

-- a target that is kept for the XML declaration
abbrev pub is_reserved : List ℕ → Bool
is_reserved target = bytes_eq (lowered target) (codes "xml")

-- what follows a target: white space and a text, or the end of the instruction
abbrev pub instruction_end_at : List ℕ → List ℕ → List ℕ → Reading Token
instruction_end_at start target cs = if is_reserved target then Err (ReservedTarget, start)
    else (word_at (codes "?>") (if begins Space cs then from_end Instruction cs else cs) >>= λ rest. Ok (Nothing, rest))

-- PI, after its angle bracket and question mark
unfoldable pub instruction_at : List ℕ → List ℕ → Reading Token
instruction_at start cs = do
  target ← plain_name_at cs
  instruction_end_at start target.0 target.1

-- after an angle bracket
abbrev pub markup_at : List ℕ → List ℕ → Reading Token
markup_at start [] = Err (Unclosed, [])
markup_at start (c ∷ cs) = if c == 47 then (end_tag_at cs >>= λ n. Ok (End n.0, n.1))
    else (if c == 33 then exclaimed_at start cs
    else (if c == 63 then instruction_at start cs
    else (start_tag_at (c ∷ cs) >>= λ t. Ok (Start t.0, t.1))))

-- CharData ends before an angle bracket or an ampersand, or with the text; the angle bracket after two brackets may not stand in it
abbrev pub characters_end_at : List ℕ → List ℕ → Reading Token
characters_end_at cs [] = Ok (Characters cs, [])
characters_end_at cs (c ∷ rest) = if c == 60 || c == 38 then Ok (Characters cs, c ∷ rest)
    else (word_at (codes "]]") (c ∷ rest) >>= λ bracket. Err (Unexpected, bracket))

abbrev pub characters_at : List ℕ → Reading Token
characters_at cs = characters_end_at (before_end Data cs) (from_end Data cs)

-- a token that begins with this character
abbrev pub token_from : ℕ → List ℕ → Reading Token
token_from c cs = if c == 60 then markup_at (c ∷ cs) cs
    else (if c == 38 then (reference_at cs >>= λ r. Ok (Refers r.0, r.1))
    else characters_at (c ∷ cs))

-- the next token, or nothing at the end of the text
abbrev pub token_at : List ℕ → Reading (Option (At Token))
token_at [] = Ok (None, [])
token_at (c ∷ cs) = begun_at (c ∷ cs) (token_from c cs) >>= λ t. Ok (Some (placed (c ∷ cs) t.0), t.1)
