-- How deep the elements are that are being built.
use Rattle.std.proofs.Common.{◌≡◌, ℕ, ◌+◌, ◌-◌, ◌≤◌, ◌<◌, max, Bool, true, false, nat_lt, List, [], ◌∷◌, ◌++◌, length, Option, Some, None, Result, Ok, refl, ap, subst, arith}
use Rattle.std.proofs.lemmas.Bool.{ltb-true}
use Rattle.laws.specs.Results.{◌>>=◌}
use Rattle.laws.specs.Text.{is_filled}
use Rattle.laws.proofs.Results.{bind_ok, test_ok, guard_ok}
use Rattle.xml_text.specs.Tokens.{At, Name, Reference, Tag, Token, Start, End, Characters, Refers, Section, Nothing}
use Rattle.xml_text.specs.Reading.{left_of, after_space}
use Rattle.xml_text.specs.Values.{character_of}
use Rattle.xml_text.specs.declared.fault.Fault.TheVariants as faults
use Rattle.xml_tree.specs.Trees.{Element, content_of}
use Rattle.xml_tree.specs.Values.{Refusal, lines_of, placed_character}
use Rattle.xml_tree.specs.Scope.{same_name}
use Rattle.xml_tree.specs.Names.{Said, said}
use Rattle.xml_tree.specs.Building.{Open, State, state, scope_of, opened, element_of, with_text, ended, most_open, started, start, end, characters, referred, section, step}
use Rattle.xml_tree.specs.Grammar.{depth, content_depth}

-- what an open element contains so far is not too deep
abbrev pub Shallow : List Open → Type 0
Shallow [] = Unit {0}
Shallow (o ∷ os) = (content_depth (content_of o.before o.text) + length (o ∷ os) ≤ most_open) × Shallow os

-- nor is a root; where an element is open none has ended
abbrev pub Within : List Open → Option Element → Type 0
Within [] None = Unit {0}
Within [] (Some r) = depth r ≤ most_open
Within (o ∷ os) None = Shallow (o ∷ os)
Within (o ∷ os) (Some r) = ⊥

abbrev pub StateWithin : State → Type 0
StateWithin s = Within s.open_ones s.root

-- what is in an Ok
pub same_state : (s more : State) → ◌≡◌ {A = Result State Refusal} (Ok s) (Ok more) → s ≡ more
same_state s more e = cc

-- texts have no depth
depth_of_text : (ps : List (List ℕ × Element)) (t u : List ℕ) → content_depth (content_of ps t) ≡ content_depth (content_of ps u)
depth_of_text [] t u = refl
depth_of_text (p ∷ ps) t u = ap (max (depth p.1)) (depth_of_text ps t u)

depth_of_child : (ps : List (List ℕ × Element)) (t : List ℕ) (e : Element) (k : ℕ) → content_depth (content_of ps t) ≤ k → depth e ≤ k → content_depth (content_of (ps ++ (t, e) ∷ []) []) ≤ k
depth_of_child [] t e k a b = omega arith
depth_of_child (p ∷ ps) t e k a b =
    let more = depth_of_child ps t e k (omega arith) b in
    omega arith

text_within : (o : Open) (os : List Open) (root : Option Element) (t : List ℕ) → Within (o ∷ os) root → Within (with_text t o ∷ os) root
text_within o os None t (here, others) =
    let same = depth_of_text o.before o.text (o.text ++ t) in
    (rw same at here, others)
text_within o os (Some r) t never = absurd never

-- an element that ends within those
ended_within : (e : Element) (os : List Open) → depth e + length os ≤ most_open → Shallow os → StateWithin (ended None e os)
ended_within e [] le others = omega arith
ended_within e (o ∷ os) le (here, others) =
    (child_within e o os le here, others)
  where
    child_within : (e : Element) (o : Open) (os : List Open) → depth e + length (o ∷ os) ≤ most_open → content_depth (content_of o.before o.text) + length (o ∷ os) ≤ most_open
        → content_depth (content_of (o.before ++ (o.text, e) ∷ []) []) + length (o ∷ os) ≤ most_open
    child_within e o os a b =
        let more = depth_of_child o.before o.text e (255 - length os) (omega arith) (omega arith) in
        omega arith

element_within : (o : Open) (os : List Open) → Shallow (o ∷ os) → depth (element_of o) + length os ≤ most_open
element_within o os (here, others) = omega arith

started_within : (os : List Open) (empty : Bool) (left : ℕ) (written : Name) (x : Said) → length os < 256 → Shallow os → StateWithin (started None os empty (opened left written x))
started_within os true left written x few shallow = ended_within (element_of (opened left written x)) os (omega arith) shallow
started_within os false left written x few shallow = (omega arith, shallow)

around : (os : List Open) → Within os None → Shallow os
around [] w = tt
around (o ∷ os) w = w

start-within : (os : List Open) (root : Option Element) (left : ℕ) (tag : Tag) (more : State) → start os root left tag ≡ Ok more → Within os root → StateWithin more
start-within os (Some r) left tag more is w = absurd cc
start-within os None left tag more is w =
    let t = test_ok (nat_lt (length os) most_open) (said (scope_of os) left tag >>= λ x. Ok (started None os tag.empty (opened left tag.name x))) (faults.TooDeep, left) more is in
    let x = bind_ok (said (scope_of os) left tag) (λ x. Ok (started None os tag.empty (opened left tag.name x))) more t.1 in
    subst StateWithin (same_state (started None os tag.empty (opened left tag.name x.0)) more x.2) (started_within os tag.empty left tag.name x.0 (ltb-true (length os) most_open t.0) (around os w))

end-within : (os : List Open) (root : Option Element) (left : ℕ) (name : At Name) (more : State) → end os root left name ≡ Ok more → Within os root → StateWithin more
end-within [] root left name more is w = absurd cc
end-within (o ∷ os) (Some r) left name more is w = absurd w
end-within (o ∷ os) None left name more is w =
    let t = test_ok (same_name name.v o.written) (Ok (ended None (element_of o) os)) (faults.Mismatched, name.left) more is in
    subst StateWithin (same_state (ended None (element_of o) os) more t.1) (ended_within (element_of o) os (element_within o os w) w.1)

characters-within : (os : List Open) (root : Option Element) (cs t : List ℕ) (more : State) → characters os root cs t ≡ Ok more → Within os root → StateWithin more
characters-within [] root cs t more is w =
    let g = guard_ok (is_filled (after_space t)) (Ok (state [] root)) (faults.Outside, left_of (after_space cs)) more is in
    subst StateWithin (same_state (state [] root) more g.1) w
characters-within (o ∷ os) root cs t more is w =
    subst StateWithin (same_state (state (with_text (lines_of t) o ∷ os) root) more is) (text_within o os root (lines_of t) w)

referred-within : (os : List Open) (root : Option Element) (left : ℕ) (r : Reference) (more : State) → referred os root left r ≡ Ok more → Within os root → StateWithin more
referred-within [] root left r more is w = absurd cc
referred-within (o ∷ os) root left r more is w =
    let t = bind_ok (placed_character left (character_of r)) (λ t. Ok (state (with_text t o ∷ os) root)) more is in
    subst StateWithin (same_state (state (with_text t.0 o ∷ os) root) more t.2) (text_within o os root t.0 w)

section-within : (os : List Open) (root : Option Element) (left : ℕ) (t : List ℕ) (more : State) → section os root left t ≡ Ok more → Within os root → StateWithin more
section-within [] root left t more is w = absurd cc
section-within (o ∷ os) root left t more is w =
    subst StateWithin (same_state (state (with_text (lines_of t) o ∷ os) root) more is) (text_within o os root (lines_of t) w)

pub step-within : (s more : State) (cs : List ℕ) (x : Token) → step s cs x ≡ Ok more → StateWithin s → StateWithin more
step-within s more cs (Start tag) is w = start-within s.open_ones s.root (left_of cs) tag more is w
step-within s more cs (End name) is w = end-within s.open_ones s.root (left_of cs) name more is w
step-within s more cs (Characters t) is w = characters-within s.open_ones s.root cs t more is w
step-within s more cs (Refers r) is w = referred-within s.open_ones s.root (left_of cs) r more is w
step-within s more cs (Section t) is w = section-within s.open_ones s.root (left_of cs) t more is w
step-within s more cs Nothing is w = subst StateWithin (same_state s more is) w
