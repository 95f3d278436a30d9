-- What several selectors say, one by one.
use Rattle.std.proofs.Common.{◌≡◌, ℕ, suc, ◌<◌, Bool, true, false, List, [], ◌∷◌, map, length, refl, sym, ap, ◌∙◌, subst, Option, Some, None, Vec, cond, arith}
use Rattle.std.specs.Global.{Global}
use Rattle.std.specs.List.{list_any}
use Rattle.std.specs.Option.{option_map}
use Rattle.literature_entries.specs.declared.entry.Entry.{Entry}
use Rattle.literature.specs.Trees.{trees_of}
use Rattle.literature.specs.Holding.{meaning, meanings, take_first, and_others, each_takes, following}
use Rattle.literature.specs.Left.{left_of, left_from}
use Rattle.literature.specs.Views.{tree_view}
use Rattle.literature.specs.declared.node.Node.{Node, Alternatives, Multi}
use Rattle.literature.proofs.Views.{view_alternatives, view_multi}

one_at : (ns : List Node) (e : Entry) → list_any (λ m. m.at e) (meanings (trees_of (map tree_view ns))) ≡ list_any (λ n. (meaning (tree_view n)).at e) ns
one_at [] e = refl
one_at (n ∷ ns) e = rw (one_at ns e) refl

one_above : (ns : List Node) (ps : List Entry) → list_any (λ m. m.above ps) (meanings (trees_of (map tree_view ns))) ≡ list_any (λ n. (meaning (tree_view n)).above ps) ns
one_above [] ps = refl
one_above (n ∷ ns) ps = rw (one_above ns ps) refl

each_at : (ns : List Node) → map (λ m. m.at) (meanings (trees_of (map tree_view ns))) ≡ map (λ n. (meaning (tree_view n)).at) ns
each_at [] = refl
each_at (n ∷ ns) = rw (each_at ns) refl

-- a choice of nodes at an entry
pub at_alternatives : (n : Node) (sides : Vec Node Global) (e : Entry) → n ≡ Alternatives sides → (meaning (tree_view n)).at e ≡ list_any (λ m. (meaning (tree_view m)).at e) sides.items
at_alternatives n sides e is = ap (λ m. (meaning (tree_view m)).at e) is ∙ ap (λ x. (meaning x).at e) (view_alternatives sides) ∙ one_at sides.items e

-- the same of parents
pub above_alternatives : (n : Node) (sides : Vec Node Global) (ps : List Entry) → n ≡ Alternatives sides → (meaning (tree_view n)).above ps ≡ list_any (λ m. (meaning (tree_view m)).above ps) sides.items
above_alternatives n sides ps is = ap (λ m. (meaning (tree_view m)).above ps) is ∙ ap (λ x. (meaning x).above ps) (view_alternatives sides) ∙ one_above sides.items ps

left_none : {X : Type 0} (i : ℕ) (xs : List X) → left_from [] i xs ≡ xs
left_none i [] = refl
left_none i (x ∷ xs) = ap (λ ys. x ∷ ys) (left_none (suc i) xs)

-- parents satisfy more than one node at once where each in turn takes one
pub above_members : (n : Node) (members : Vec Node Global) (ps : List Entry) → n ≡ Multi members → (meaning (tree_view n)).above ps ≡ each_takes (map (λ m. (meaning (tree_view m)).at) members.items) ps
above_members n members ps is =
    ap (λ m. (meaning (tree_view m)).above ps) is ∙ ap (λ x. (meaning x).above ps) (view_multi members) ∙ ap (λ tests. each_takes tests ps) (each_at members.items)

-- the same, where no parent was taken
pub above_multi : (n : Node) (members : Vec Node Global) (ps : List Entry) → n ≡ Multi members
    → (meaning (tree_view n)).above ps ≡ each_takes (map (λ m. (meaning (tree_view m)).at) members.items) (left_of [] ps)
above_multi n members ps is = above_members n members ps is ∙ ap (each_takes _) (sym (left_none 0 ps))

module _ {X : Type 0} where
  -- what is left is one less
  abbrev IsOneLess : ℕ → Option (X × List X) → Type 0
  IsOneLess n None = Unit {0}
  IsOneLess n (Some p) = suc (length p.1) ≡ n

  one_less_after : (x : X) (n : ℕ) (o : Option (X × List X)) → IsOneLess n o → IsOneLess (suc n) (option_map (following x) o)
  one_less_after x n None h = tt
  one_less_after x n (Some p) h = ap suc h

  one_less_step : (b : Bool) (x : X) (xs : List X) (o : Option (X × List X)) → IsOneLess (length xs) o → IsOneLess (suc (length xs)) (cond b (Some (x, xs)) (option_map (following x) o))
  one_less_step true x xs o h = refl
  one_less_step false x xs o h = one_less_after x (length xs) o h

  one_less : (test : X → Bool) (xs : List X) → IsOneLess (length xs) (take_first test xs)
  one_less test [] = tt
  one_less test (x ∷ xs) = one_less_step (test x) x xs (take_first test xs) (one_less test xs)

  others_too_few : (k n : ℕ) (pass : List X → Bool) (o : Option (X × List X)) → IsOneLess n o → n < suc k → ((xs : List X) → length xs < k → pass xs ≡ false) → and_others pass o ≡ false
  others_too_few k n pass None h less never = refl
  others_too_few k n pass (Some p) h less never = never p.1 (omega (arith, h, less))

  -- there is nothing left for more tests than things
  too_few : (tests : List (X → Bool)) (xs : List X) → length xs < length tests → each_takes tests xs ≡ false
  too_few [] xs less = absurd (not_below less) where
    not_below : {n : ℕ} → n < 0 → ⊥
    not_below h = omega (arith, h)
  too_few (test ∷ tests) xs less = others_too_few (length tests) (length xs) (each_takes tests) (take_first test xs) (one_less test xs) less (too_few tests)

length_of_map : {X Y : Type 0} (f : X → Y) (xs : List X) → length (map f xs) ≡ length xs
length_of_map f [] = refl
length_of_map f (x ∷ xs) = ap suc (length_of_map f xs)

-- fewer parents than members do not satisfy more than one node at once
pub above_too_few : (n : Node) (members : Vec Node Global) (ps : List Entry) → n ≡ Multi members → length ps < length members.items → (meaning (tree_view n)).above ps ≡ false
above_too_few n members ps is less =
    above_members n members ps is ∙ too_few (map (λ m. (meaning (tree_view m)).at) members.items) ps (subst (λ k. length ps < k) (sym (length_of_map _ members.items)) less)

-- what a look at the sides of a choice answered
pub choice_at : (n : Node) (sides : Vec Node Global) (e : Entry) (ns : List Node) (r : Bool) → n ≡ Alternatives sides → ns ≡ sides.items → r ≡ list_any (λ m. (meaning (tree_view m)).at e) ns → r ≡ (meaning (tree_view n)).at e
choice_at n sides e ns r is same h = h ∙ ap (list_any (λ m. (meaning (tree_view m)).at e)) same ∙ sym (at_alternatives n sides e is)

pub choice_above : (n : Node) (sides : Vec Node Global) (ps : List Entry) (ns : List Node) (r : Bool) → n ≡ Alternatives sides → ns ≡ sides.items → r ≡ list_any (λ m. (meaning (tree_view m)).above ps) ns
    → r ≡ (meaning (tree_view n)).above ps
choice_above n sides ps ns r is same h = h ∙ ap (list_any (λ m. (meaning (tree_view m)).above ps)) same ∙ sym (above_alternatives n sides ps is)
