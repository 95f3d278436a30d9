-- A machine that reads a text from the left, one character a step, and stops at the first that may not stand there.
use Rattle.std.proofs.Common.{ℕ, Bool, true, false, not, ◌&&◌, cond, eqb, List, [], ◌∷◌, ◌++◌, Option, Some, None, Result, Ok, Err, codes}
use Rattle.std.specs.Char.{is_whitespace}
use Rattle.std.specs.Option.{option_map, option_map_or}
use Rattle.biblatex_text.specs.Character.{is_id_start, is_id_continue, is_key}
use Rattle.biblatex_text.specs.Run.{depth_after}
use Rattle.biblatex_text.specs.Reading.{Refusal}
use Rattle.biblatex_text.specs.Fields.{closing}
use Rattle.biblatex_text.specs.Items.{is_named}
use Rattle.biblatex_text.specs.declared.token.Token.TheVariants as tokens
use Rattle.biblatex_text.specs.declared.token.Fault.{Fault}
use Rattle.biblatex_text.specs.declared.token.Fault.TheVariants.{UnexpectedEof, Unexpected, Expected}
use Rattle.biblatex_grammar.proofs.States.{Bracket, brace, parenthesis}

-- what an item stands in
pub data Shape : Type 0 where
  curly : Shape
  round : Shape

abbrev pub bracket_of : Shape → Bracket
bracket_of curly = brace
bracket_of round = parenthesis

abbrev pub mark_of : Shape → ℕ
mark_of s = closing (bracket_of s)

-- what a value stands in
pub data Holder : Type 0 where
  of_field : Shape → Holder
  of_preamble : Shape → Holder

-- Characters that are passed over before something is decided.
pub data Class : Type 0 where
  between : Class
  gap : Class
  word : Class
  key : Shape → Class
  remark : Class
  braces : Class
  quotes : Class

-- What is decided at the first character that is not passed over.
pub data Point : Type 0 where
  item : Point
  kind_first : Point
  kind_done : List ℕ → Point
  remark_end : Point
  key_first : Shape → Point
  key_done : Shape → Point
  comma_or_end : Shape → Point
  field_or_end : Shape → Point
  name_done : Shape → Point
  equals : Shape → Point
  piece_first : Holder → Point
  brace_end : Holder → Point
  quote_end : Holder → Point
  bare_done : Holder → Point
  piece_or_end : Holder → Point

-- what is passed over before a point
abbrev pub class_of : Point → Class
class_of item = between
class_of kind_first = gap
class_of (kind_done name) = gap
class_of remark_end = remark
class_of (key_first s) = gap
class_of (key_done s) = key s
class_of (comma_or_end s) = gap
class_of (field_or_end s) = gap
class_of (name_done s) = word
class_of (equals s) = gap
class_of (piece_first h) = gap
class_of (brace_end h) = braces
class_of (quote_end h) = quotes
class_of (bare_done h) = word
class_of (piece_or_end h) = gap

-- Where the machine is: before a point, with a sign that a comment or a backslash hides the next character and the number of
-- open braces; or in the name of a kind.
pub data Place : Type 0 where
  before : Bool → ℕ → Point → Place
  naming : List ℕ → Place

abbrev pub goes_on : Bool → Option (Bool × ℕ)
goes_on test = cond test (Some (false, 0)) None

abbrev pub at_depth : ℕ → Bool × ℕ
at_depth d = (false, d)

-- the sign and the number after one more character, or none where it is not passed over
abbrev pub forward : Class → Bool → ℕ → ℕ → Option (Bool × ℕ)
forward between false d c = cond (eqb c 37) (Some (true, 0)) (goes_on (not (eqb c 64)))
forward between true d c = Some (cond (eqb c 10) (false, 0) (true, 0))
forward gap false d c = cond (eqb c 37) (Some (true, 0)) (goes_on (is_whitespace c))
forward gap true d c = Some (cond (eqb c 10) (false, 0) (true, 0))
forward word hides d c = goes_on (is_id_continue c)
forward (key curly) hides d c = goes_on (is_key c)
forward (key round) hides d c = goes_on (is_key c && not (eqb c 41))
forward remark hides d c = option_map at_depth (depth_after d c)
forward braces false d c = cond (eqb c 92) (Some (true, d)) (option_map at_depth (depth_after d c))
forward braces true d c = Some (false, d)
forward quotes false d c = cond (eqb c 92) (Some (true, d)) (cond (eqb c 34 && eqb d 0) None (option_map at_depth (depth_after d c)))
forward quotes true d c = Some (false, d)

abbrev pub Next : Type 0
Next = Result Place Fault

-- a character is passed over before a point, or something is decided there
abbrev pub passes : Class → Bool → ℕ → Point → ℕ → Next → Next
passes class hides d k c decided = option_map_or (λ (g : Bool × ℕ). Ok (before g.0 g.1 k)) (forward class hides d c) decided

abbrev pub starts : Point → Place
starts k = before false 0 k

abbrev pub start : Place
start = starts item

abbrev pub wants : Bool → Place → Fault → Next
wants test place fault = cond test (Ok place) (Err fault)

abbrev pub at_comma : Shape → ℕ → Next
at_comma s c = cond (eqb c (mark_of s)) (Ok start) (wants (eqb c 44) (starts (field_or_end s)) (Expected tokens.Comma))

abbrev pub at_field : Shape → ℕ → Next
at_field s c = cond (eqb c (mark_of s)) (Ok start) (wants (is_id_start c) (starts (name_done s)) (Expected tokens.Identifier))

abbrev pub at_equals : Shape → ℕ → Next
at_equals s c = wants (eqb c 61) (starts (piece_first (of_field s))) (Expected tokens.Equals)

abbrev pub at_piece : Holder → ℕ → Next
at_piece h c = cond (eqb c 123) (Ok (starts (brace_end h))) (cond (eqb c 34) (Ok (starts (quote_end h))) (wants (is_id_continue c) (starts (bare_done h)) (Expected tokens.Identifier)))

-- after the last piece of a value
abbrev pub at_value_end : Holder → ℕ → Next
at_value_end (of_field s) c = at_comma s c
at_value_end (of_preamble s) c = wants (eqb c (mark_of s)) start (Expected tokens.ClosingBrace)

abbrev pub at_piece_or_end : Holder → ℕ → Next
at_piece_or_end h c = cond (eqb c 35) (Ok (starts (piece_first h))) (at_value_end h c)

-- after what opens an item
abbrev pub opened : List ℕ → Shape → Place
opened name s = cond (is_named name (codes "preamble")) (starts (piece_first (of_preamble s))) (cond (is_named name (codes "string")) (starts (field_or_end s)) (starts (key_first s)))

abbrev pub at_item : ℕ → Next
at_item c = passes between false 0 item c (Ok (starts kind_first))

-- a comment is nothing where no brace follows its kind
abbrev pub at_remark : ℕ → Next
at_remark c = cond (eqb c 123) (Ok (starts remark_end)) (at_item c)

abbrev pub at_opening : List ℕ → ℕ → Next
at_opening name c = cond (eqb c 123) (Ok (opened name curly)) (wants (eqb c 40) (opened name round) (Expected tokens.OpeningBrace))

abbrev pub at_kind_done : List ℕ → ℕ → Next
at_kind_done name c = cond (is_named name (codes "comment")) (at_remark c) (at_opening name c)

-- what is decided at a character
abbrev pub decides : Point → ℕ → Next
decides item c = Ok (starts kind_first)
decides kind_first c = wants (is_id_start c) (naming (c ∷ [])) (Expected tokens.Identifier)
decides (kind_done name) c = at_kind_done name c
decides remark_end c = Ok start
decides (key_first s) c = passes (key s) false 0 (key_done s) c (passes gap false 0 (comma_or_end s) c (at_comma s c))
decides (key_done s) c = passes gap false 0 (comma_or_end s) c (at_comma s c)
decides (comma_or_end s) c = at_comma s c
decides (field_or_end s) c = at_field s c
decides (name_done s) c = passes gap false 0 (equals s) c (at_equals s c)
decides (equals s) c = at_equals s c
decides (piece_first h) c = at_piece h c
decides (brace_end h) c = Ok (starts (piece_or_end h))
decides (quote_end h) c = wants (eqb c 34) (starts (piece_or_end h)) (Unexpected tokens.ClosingBrace)
decides (bare_done h) c = passes gap false 0 (piece_or_end h) c (at_piece_or_end h c)
decides (piece_or_end h) c = at_piece_or_end h c

abbrev pub step : Place → ℕ → Next
step (before hides d k) c = passes (class_of k) hides d k c (decides k c)
step (naming name) c = cond (is_id_continue c) (Ok (naming (name ++ c ∷ []))) (passes gap false 0 (kind_done name) c (at_kind_done name c))

-- a text is read, or refused
abbrev pub Verdict : Type 0
Verdict = Result (Unit {0}) Refusal

abbrev pub whole : Verdict
whole = Ok tt

abbrev pub too_soon : Verdict
too_soon = Err (UnexpectedEof, [])

-- where the text ends
abbrev pub end_of : Point → Verdict
end_of item = whole
end_of (kind_done name) = cond (is_named name (codes "comment")) whole too_soon
end_of kind_first = too_soon
end_of remark_end = too_soon
end_of (key_first s) = too_soon
end_of (key_done s) = too_soon
end_of (comma_or_end s) = too_soon
end_of (field_or_end s) = too_soon
end_of (name_done s) = too_soon
end_of (equals s) = too_soon
end_of (piece_first h) = too_soon
end_of (brace_end h) = too_soon
end_of (quote_end h) = too_soon
end_of (bare_done h) = too_soon
end_of (piece_or_end h) = too_soon

abbrev pub ends_at : Place → Verdict
ends_at (before hides d k) = end_of k
ends_at (naming name) = end_of (kind_done name)

-- what comes after a step, at the text where it was taken
abbrev pub continued : {A : Type 0} → Next → List ℕ → (Place → Result A Refusal) → Result A Refusal
continued (Ok place) text more = more place
continued (Err fault) text more = Err (fault, text)

-- what the machine says of a text, from a place on
abbrev pub verdict : Place → List ℕ → Verdict
verdict place [] = ends_at place
verdict place (c ∷ cs) = continued (step place c) (c ∷ cs) (λ then. verdict then cs)

-- the same at a point where nothing more is passed over
abbrev pub met : Point → List ℕ → Verdict
met k [] = end_of k
met k (c ∷ cs) = continued (decides k c) (c ∷ cs) (λ then. verdict then cs)

-- where the machine is after a text
abbrev pub reached : Place → List ℕ → Result Place Refusal
reached place [] = Ok place
reached place (c ∷ cs) = continued (step place c) (c ∷ cs) (λ then. reached then cs)
