-- Where faults of a tree stand in its text: at start-tags, but text where its first line begins that is more than white space. Places are told by
-- how many bytes of the text are left. Characters are numbers.
use Rattle.std.specs.Prelude.{ℕ, ◌+◌, ◌-◌, Bool, false, not, ◌==◌, ◌||◌, List, [], ◌∷◌, if◌then◌else◌, Option, Some, None, unwrap_or, Result, Ok, Err}
use Rattle.std.specs.Option.{option_or}
use Rattle.laws.specs.Steps.{each}
use Rattle.xml_text.specs.Character.{is_space}
use Rattle.xml_text.specs.Markup.{token_at}
use Rattle.xml_text.specs.Prolog.{prolog_at}
use Rattle.xml_text.specs.Reading.{Reading, Refusal, left_of}
use Rattle.xml_text.specs.Tokens.{At, Token, Start, End, Characters, Refers, Section, Nothing}
use Rattle.xml_text.specs.Values.{character_of}
use Rattle.xml_text.specs.declared.fault.Fault.{Fault as XmlFault}
use Rattle.xml_schema.specs.Faults.{Wrong, Stray, NoAttribute, NoValue, Lacking, Crowded, Childless, Repeated, Texts, Fault, fault}
use Rattle.xml_schema.specs.Values.{has_words}

-- what was read; nothing where there is a fault
abbrev pub read_or_none : {X : Type 0} → Reading (List X) → List X
read_or_none (Ok p) = p.0
read_or_none (Err r) = []

-- all tokens after the beginning of a text
abbrev pub tokens_after : Result (List ℕ) Refusal → List (At Token)
tokens_after (Ok body) = read_or_none (each token_at body)
tokens_after (Err r) = []

-- all tokens of a text; none where it has a fault
abbrev pub tokens_of : List ℕ → List (At Token)
tokens_of cs = tokens_after (prolog_at cs)

-- the tokens after the one that begins at that place
abbrev pub after_place : ℕ → List (At Token) → List (At Token)
after_place left [] = []
after_place left (x ∷ xs) = if x.left == left then xs else after_place left xs

-- a reference stands for a character that is no white space
abbrev pub is_no_space : Result ℕ XmlFault → Bool
is_no_space (Ok c) = not (is_space c)
is_no_space (Err fault) = false

-- the line that stands after a character of white space: what follows, where that ends a line
abbrev pub line_after : ℕ → List ℕ → List ℕ → List ℕ
line_after c line following = if c == 10 || c == 13 then following else line

-- a text from its first line on that is more than white space, where the line that stands there is given too
abbrev pub words_line : List ℕ → List ℕ → List ℕ
words_line line [] = line
words_line line (c ∷ cs) = if is_space c then words_line (line_after c line cs) cs else line

-- where that line begins in a text that stands at a place
abbrev pub line_left : ℕ → List ℕ → ℕ
line_left left t = left - (left_of t - left_of (words_line t t))

-- a place, if a text is more than white space
abbrev pub words_or_none : List ℕ → ℕ → Option ℕ
words_or_none t left = if has_words t then Some left else None

-- where the token that begins there has a line that is more than white space, if it has one: character data, the text of a CDATA section after the
-- nine characters that it begins with, or a reference
abbrev pub words_at : ℕ → Token → Option ℕ
words_at left (Start tag) = None
words_at left (End name) = None
words_at left (Characters t) = words_or_none t (line_left left t)
words_at left (Refers r) = if is_no_space (character_of r) then Some left else None
words_at left (Section t) = words_or_none t (line_left (left - 9) t)
words_at left Nothing = None

-- the same, if it stands right in the outermost of so many open elements
abbrev pub words_right_in : ℕ → At Token → Option ℕ
words_right_in n x = if n == 1 then words_at x.left x.v else None

-- how many elements are open after a token
abbrev pub open_after : ℕ → Token → ℕ
open_after n (Start tag) = if tag.empty then n else n + 1
open_after n (End name) = n - 1
open_after n (Characters t) = n
open_after n (Refers r) = n
open_after n (Section t) = n
open_after n Nothing = n

-- where the first text right in the outermost of so many open elements has a line that is more than white space, before that element ends
abbrev pub first_words : ℕ → List (At Token) → Option ℕ
first_words n [] = None
first_words n (x ∷ xs) = if n == 0 then None else option_or (words_right_in n x) (first_words (open_after n x.v) xs)

-- the same of the element whose start-tag begins at that place; that place, where it has no such text
abbrev pub text_left : List ℕ → ℕ → ℕ
text_left cs left = unwrap_or (first_words 1 (after_place left (tokens_of cs))) left

-- where that is wrong with the element whose start-tag begins at that place
abbrev pub fault_left : List ℕ → Wrong → ℕ → ℕ
fault_left cs (Stray rule) left = left
fault_left cs (NoAttribute name) left = left
fault_left cs (NoValue name) left = left
fault_left cs (Lacking names) left = left
fault_left cs (Crowded names) left = left
fault_left cs (Childless name) left = left
fault_left cs (Repeated name) left = left
fault_left cs Texts left = text_left cs left

-- a fault of a tree, at its place in the text
abbrev pub placed_in : List ℕ → Fault → Fault
placed_in cs f = fault (fault_left cs f.wrong f.left) f.wrong
