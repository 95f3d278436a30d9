-- What character data and values stand for. Characters are numbers.
use Rattle.std.specs.Prelude.{ℕ, Bool, true, false, ◌==◌, ◌&&◌, List, [], ◌∷◌, ◌++◌, map, if◌then◌else◌, Result, Ok, Err}
use Rattle.laws.specs.Results.{◌>>=◌}
use Rattle.xml_text.specs.Character.{is_space}
use Rattle.xml_text.specs.Tokens.{Piece, Literal, Referred}
use Rattle.xml_text.specs.Values.{character_of}
use Rattle.xml_text.specs.declared.fault.Fault.{Fault}
use Rattle.xml_tree.specs.Folding.{folded}

-- a fault, and its place
abbrev pub Refusal : Type 0
Refusal = Fault × ℕ

-- what a character stands for, where the flag tells whether a carriage return stands just before: a carriage return, and a line feed after
-- it, are one line feed
abbrev pub line_part : Bool → ℕ → List ℕ
line_part returned c = if c == 13 then 10 ∷ [] else (if returned && c == 10 then [] else c ∷ [])

abbrev pub lines_from : Bool → List ℕ → List ℕ
lines_from returned [] = []
lines_from returned (c ∷ cs) = line_part returned c ++ lines_from (c == 13) cs

-- character data, with its ends of lines as line feeds
abbrev pub lines_of : List ℕ → List ℕ
lines_of cs = lines_from false cs

-- in a value white space is spaces
abbrev pub spaced : ℕ → ℕ
spaced c = if is_space c then 32 else c

-- a character in a value, or in character data
abbrev pub shown : Bool → ℕ → ℕ
shown true = spaced
shown false = λ c. c

-- what a reference stands for, or its fault and the place where it stands
abbrev pub placed_character : ℕ → Result ℕ Fault → Result (List ℕ) Refusal
placed_character left (Ok c) = Ok (c ∷ [])
placed_character left (Err fault) = Err (fault, left)

-- a value with what one more piece stands for, or the fault of that
abbrev pub with_more : List ℕ → Result (List ℕ) Refusal → Result (List ℕ) Refusal
with_more value more = more >>= λ t. Ok (value ++ t)

-- a value with one more piece
abbrev pub with_piece : List ℕ → Piece → Result (List ℕ) Refusal
with_piece value (Literal t) = Ok (value ++ map spaced (lines_of t))
with_piece value (Referred r) = with_more value (placed_character r.left (character_of r.v))

-- what the pieces of a value stand for
abbrev pub value_of : List Piece → Result (List ℕ) Refusal
value_of ps = folded with_piece [] ps
