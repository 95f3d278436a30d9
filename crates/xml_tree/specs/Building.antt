-- Building a tree from tokens, from the left: the tree, or the first fault and its place. Characters are numbers.
use Rattle.std.specs.Prelude.{ℕ, zero, suc, nat_lt, Bool, true, false, List, [], ◌∷◌, ◌++◌, length, if◌then◌else◌, Option, Some, None, Result, Ok, Err}
use Rattle.laws.specs.Results.{◌>>=◌}
use Rattle.laws.specs.Text.{is_filled}
use Rattle.xml_text.specs.Tokens.{At, Name, Reference, Tag, Token, Start, End, Characters, Refers, Section, Nothing}
use Rattle.xml_text.specs.Reading.{left_of, after_space}
use Rattle.xml_text.specs.Reading as reading
use Rattle.xml_text.specs.Markup.{token_at}
use Rattle.xml_text.specs.Prolog.{prolog_at}
use Rattle.xml_text.specs.Values.{character_of}
use Rattle.xml_text.specs.declared.fault.Fault.TheVariants as faults
use Rattle.xml_tree.specs.Trees.{Element, Tagged, content_of}
use Rattle.xml_tree.specs.Values.{Refusal, lines_of, placed_character}
use Rattle.xml_tree.specs.Scope.{Scope, unbound, over, same_name}
use Rattle.xml_tree.specs.Names.{Said, said}

-- an element that is open: its start-tag, and what its content has so far
pub record Open : Type 0 where
  pub left : ℕ
  pub written : Name
  pub said : Said
  pub before : List (List ℕ × Element)
  pub text : List ℕ

-- the open elements, the innermost first, and the root where it has ended
pub record State : Type 0 where
  pub open_ones : List Open
  pub root : Option Element

abbrev pub state : List Open → Option Element → State
state os root = record { open_ones = os; root = root }

abbrev pub first_state : State
first_state = state [] None

-- the bindings that hold in the innermost element
abbrev pub scope_of : List Open → Scope
scope_of [] = unbound
scope_of (o ∷ os) = over o.said.own (scope_of os)

-- an element that was opened just now
abbrev pub opened : ℕ → Name → Said → Open
opened left written said = record { left = left; written = written; said = said; before = []; text = [] }

abbrev pub element_of : Open → Element
element_of o = Tagged o.left o.said.name o.said.attributes (content_of o.before o.text)

-- an open element with one more element in it, and with more text
abbrev pub with_child : Element → Open → Open
with_child e o = record { left = o.left; written = o.written; said = o.said; before = o.before ++ (o.text, e) ∷ []; text = [] }

abbrev pub with_text : List ℕ → Open → Open
with_text t o = record { left = o.left; written = o.written; said = o.said; before = o.before; text = o.text ++ t }

-- an element that has ended is part of the one around it, or the root
abbrev pub ended : Option Element → Element → List Open → State
ended root e [] = state [] (Some e)
ended root e (o ∷ os) = state (with_child e o ∷ os) root

-- at most 256 elements are open
abbrev pub most_open : ℕ
most_open = 256

-- an element after its start-tag; an empty one has ended
abbrev pub started : Option Element → List Open → Bool → Open → State
started root os true o = ended root (element_of o) os
started root os false o = state (o ∷ os) root

-- a start-tag within those elements, of which there may not be too many
abbrev pub start_below : Option Element → List Open → ℕ → Tag → Result State Refusal
start_below root os left tag = if nat_lt (length os) most_open then (said (scope_of os) left tag >>= λ x. Ok (started root os tag.empty (opened left tag.name x)))
    else Err (faults.TooDeep, left)

-- a start-tag; there is one root
abbrev pub start : List Open → Option Element → ℕ → Tag → Result State Refusal
start os (Some e) left tag = Err (faults.SecondRoot, left)
start os None left tag = start_below None os left tag

-- an end-tag must have the name of the innermost open element, as it is written
abbrev pub closed_by : Open → List Open → Option Element → At Name → Result State Refusal
closed_by o os root name = if same_name name.v o.written then Ok (ended root (element_of o) os) else Err (faults.Mismatched, name.left)

abbrev pub end : List Open → Option Element → ℕ → At Name → Result State Refusal
end [] root left name = Err (faults.Unopened, left)
end (o ∷ os) root left name = closed_by o os root name

-- after more text of the innermost element
abbrev pub with_data : List ℕ → Open → List Open → Option Element → State
with_data t o os root = state (with_text t o ∷ os) root

-- outside the root there is white space alone, from a token on
abbrev pub white_space : State → List ℕ → List ℕ → Result State Refusal
white_space s cs t = if is_filled (after_space t) then Err (faults.Outside, left_of (after_space cs)) else Ok s

abbrev pub characters : List Open → Option Element → List ℕ → List ℕ → Result State Refusal
characters [] root cs t = white_space (state [] root) cs t
characters (o ∷ os) root cs t = Ok (with_data (lines_of t) o os root)

-- after a text that was read, or its fault
abbrev pub with_read : Result (List ℕ) Refusal → Open → List Open → Option Element → Result State Refusal
with_read read o os root = read >>= λ t. Ok (with_data t o os root)

abbrev pub referred : List Open → Option Element → ℕ → Reference → Result State Refusal
referred [] root left r = Err (faults.Outside, left)
referred (o ∷ os) root left r = with_read (placed_character left (character_of r)) o os root

abbrev pub section : List Open → Option Element → ℕ → List ℕ → Result State Refusal
section [] root left t = Err (faults.Outside, left)
section (o ∷ os) root left t = Ok (with_data (lines_of t) o os root)

-- after one more token, which stands at the beginning of the text
abbrev pub step : State → List ℕ → Token → Result State Refusal
step s cs (Start tag) = start s.open_ones s.root (left_of cs) tag
step s cs (End name) = end s.open_ones s.root (left_of cs) name
step s cs (Characters t) = characters s.open_ones s.root cs t
step s cs (Refers r) = referred s.open_ones s.root (left_of cs) r
step s cs (Section t) = section s.open_ones s.root (left_of cs) t
step s cs Nothing = Ok s

-- the root at the end of the text
abbrev pub rooted : Option Element → Result Element Refusal
rooted None = Err (faults.NoRoot, 0)
rooted (Some e) = Ok e

-- the tree at the end of the text
abbrev pub finished : List Open → Option Element → Result Element Refusal
finished [] root = rooted root
finished (o ∷ os) root = Err (faults.Unfinished, 0)

-- a fault of the text with its place
abbrev pub with_place : {X : Type 0} → Result X reading.Refusal → Result X Refusal
with_place (Ok x) = Ok x
with_place (Err r) = Err (r.0, left_of r.1)

-- a state that was made, or its fault, and what follows
abbrev pub and_rest : List ℕ → Result State Refusal → Result (Option State × List ℕ) Refusal
and_rest rest made = made >>= λ more. Ok (Some more, rest)

-- the state after the next token, or nothing at the end of the text, and what follows
abbrev pub stepped_by : State → List ℕ → Option (At Token) → List ℕ → Result (Option State × List ℕ) Refusal
stepped_by s cs None rest = Ok (None, rest)
stepped_by s cs (Some t) rest = and_rest rest (step s cs t.v)

unfoldable pub stepped : State → List ℕ → Result (Option State × List ℕ) Refusal
stepped s cs = with_place (token_at cs) >>= λ t. stepped_by s cs t.0 t.1

-- the tree at the end of the text, or what the others make of the state
abbrev pub go_on : (State → List ℕ → Result Element Refusal) → State → Option State → List ℕ → Result Element Refusal
go_on others s None rest = finished s.open_ones s.root
go_on others s (Some more) rest = others more rest

-- at most so many tokens
unfoldable pub tree_below : ℕ → State → List ℕ → Result Element Refusal
tree_below zero s cs = finished s.open_ones s.root
tree_below (suc n) s cs = stepped s cs >>= λ p. go_on (tree_below n) s p.0 p.1

-- The tree of a text, or its first fault. A token takes a character at least, so one more than the text has characters is enough.
unfoldable pub tree_from : State → List ℕ → Result Element Refusal
tree_from s cs = tree_below (suc (length cs)) s cs

unfoldable pub tree_of : List ℕ → Result Element Refusal
tree_of cs = with_place (prolog_at cs) >>= λ rest. tree_from first_state rest
