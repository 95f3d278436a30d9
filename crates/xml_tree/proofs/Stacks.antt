-- The stack of open elements, of which the code has the innermost last.
use Rattle.std.proofs.Common.{◌≡◌, ℕ, true, false, ◌==◌, List, [], ◌∷◌, ◌++◌, length, map, reverse, Option, Some, None, Err, Vec, Global, String, vec_len, refl, sym, ap, ◌∙◌, MatchOption, option_to_list, ◌+◌, ◌<◌, take, get_or}
use Rattle.std.proofs.lemmas.Bool.{eqb-true}
use Rattle.std.proofs.lemmas.List.{reverse-append, length-reverse, length-map, nil_from_length, take_more}
use Rattle.std.specs.Option.{option_map, option_or}
use Rattle.laws.specs.Text.{characters}
use Rattle.xml_text.specs.Views.{name_view}
use Rattle.xml_text.specs.declared.fault.Fault.TheVariants as faults
use Rattle.xml_tree.specs.Trees as trees
use Rattle.xml_tree.specs.Building as building
use Rattle.xml_tree.specs.Building.{State, state, scope_of, with_child, with_text, finished}
use Rattle.xml_tree.specs.Views.{bindings_view, element_view, said_view, children_of, children_view, open_view, opens_of, opens_view, state_view}
use Rattle.xml_tree.specs.declared.building.Open.{Open}
use Rattle.xml_tree.specs.declared.building.Builder.{Builder}
use Rattle.xml_tree.specs.declared.tree.Element.{Element}
use Rattle.xml_tree.proofs.Elements.{children_pushed}

-- one more open element
pub opens_pushed : (os : List Open) (o : Open) → opens_of (os ++ o ∷ []) ≡ open_view o ∷ opens_of os
opens_pushed os o = ap (map open_view) (reverse-append os (o ∷ []))

pub state_pushed : (root : Option trees.Element) (xs os : List Open) (o : Open) → xs ≡ os ++ o ∷ [] → state (opens_of xs) root ≡ state (open_view o ∷ opens_of os) root
state_pushed root xs os o e = ap (λ (ys : List Open). state (opens_of ys) root) e ∙ ap (λ (ys : List building.Open). state ys root) (opens_pushed os o)

-- what a prefix is bound to in one more of the first elements
pub around_next : (os : List Open) (i n : ℕ) (d : Open) (p : Option (List ℕ)) → i + 1 ≡ n → i < length os
    → scope_of (opens_of (take n os)) p ≡ option_or (bindings_view (get_or os i d).said.own p) (scope_of (opens_of (take i os)) p)
around_next os i n d p next less =
    let last : take n os ≡ take i os ++ get_or os i d ∷ [] = ap (λ (m : ℕ). take m os) (sym next) ∙ take_more os i d less in
    ap (λ (ys : List Open). scope_of (opens_of ys) p) last ∙ ap (λ (ys : List building.Open). scope_of ys p) (opens_pushed (take i os) (get_or os i d))

-- how many there are
pub opens_counted : (v : Vec Open Global) → length (opens_view v) ≡ vec_len v
opens_counted v = length-map (reverse v.items) open_view ∙ (length-reverse v.items ∙ sym v.ok.0)

-- the innermost one is taken, if there is one
pub popped : (b : Builder) (opens : Vec Open Global) (r : Option Open) → b.open_ones.items ≡ opens.items ++ option_to_list r
    → MatchOption r ((vec_len b.open_ones ≡ 0) × (vec_len opens ≡ 0)) (λ _. vec_len opens + 1 ≡ vec_len b.open_ones)
    → MatchOption r ((opens_view b.open_ones ≡ []) × (state (opens_view opens) (option_map element_view b.root) ≡ state_view b)) (λ o. state_view b ≡ state (open_view o ∷ opens_view opens) (option_map element_view b.root))
popped b opens None e (old, new) =
    let none : b.open_ones.items ≡ [] = nil_from_length b.open_ones.items (sym b.open_ones.ok.0 ∙ old) in
    let left : opens.items ≡ [] = nil_from_length opens.items (sym opens.ok.0 ∙ new) in
    (ap opens_of none, ap (λ (os : List Open). state (opens_of os) (option_map element_view b.root)) (left ∙ sym none))
popped b opens (Some o) e counted = state_pushed (option_map element_view b.root) b.open_ones.items opens.items o e

-- a state in which no element is open
pub emptied : (s n : State) → s.open_ones ≡ [] → n ≡ s → n ≡ state [] s.root
emptied s n none same = same ∙ ap (λ (os : List building.Open). state os s.root) none

-- one more element in an open one
pub child_put : (o : Open) (before : Vec (String Global × Element) Global) (taken text : String Global) (e : Element) → before.items ≡ o.before.items ++ (taken, e) ∷ []
    → characters taken ≡ characters o.text → characters text ≡ []
    → open_view (record { left = o.left; written = o.written; said = o.said; before = before; text = text }) ≡ with_child (element_view e) (open_view o)
child_put o before taken text e pushed same none =
    let all : children_view before ≡ children_view o.before ++ (characters o.text, element_view e) ∷ [] =
    ap children_of pushed ∙ (children_pushed o.before.items taken e ∙ ap (λ (t : List ℕ). children_of o.before.items ++ (t, element_view e) ∷ []) same) in
    λ i. record { left = o.left; written = name_view o.written; said = said_view o.said; before = all i; text = none i }

-- more text in it
pub text_put : (o : Open) (text : String Global) (t : List ℕ) → characters text ≡ characters o.text ++ t
    → open_view (record { left = o.left; written = o.written; said = o.said; before = o.before; text = text }) ≡ with_text t (open_view o)
text_put o text t more =
    λ i. record { left = o.left; written = name_view o.written; said = said_view o.said; before = children_view o.before; text = more i }

-- whether one is open at the end
pub none_open : (v : Vec Open Global) → (vec_len v == 0) ≡ true → opens_view v ≡ []
none_open v e = ap opens_of (nil_from_length v.items (sym v.ok.0 ∙ eqb-true (vec_len v) 0 e))

pub still_open : (v : Vec Open Global) (root : Option trees.Element) → (vec_len v == 0) ≡ false → finished (opens_view v) root ≡ Err (faults.Unfinished, 0)
still_open v root e = some_open (opens_view v) (ap (λ (n : ℕ). n == 0) (opens_counted v) ∙ e)
  where
    some_open : (os : List building.Open) → (length os == 0) ≡ false → finished os root ≡ Err (faults.Unfinished, 0)
    some_open [] f = absurd cc
    some_open (o ∷ os) f = refl
