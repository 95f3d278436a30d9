-- What names mean after a change at a place.
use Rattle.std.proofs.Common.{◌≡◌, ℕ, zero, suc, ◌<◌, ◌≤◌, Bool, true, false, cond, not, eqb, List, [], ◌∷◌, length, map, get_or, set, filter, bytes_eq, Option, Some, None, Less, true≢false, refl, sym, ap, subst, ◌∙◌, arith}
use Rattle.std.proofs.Math.Path.{fun_ext}
use Rattle.std.proofs.Math.Seq.{map-set_same}
use Rattle.std.specs.Prelude.{◌||◌, option_and_then}
use Rattle.std.specs.List.{insert, AllByRecursion}
use Rattle.std.specs.List.Sorted.{IsStrictlySortedBy}
use Rattle.std.proofs.lemmas.Slice.Eq.{bytes_eq-Decides}
use Rattle.biblatex.specs.declared.indices.NamedIndex.{NamedIndex}
use Rattle.biblatex_meaning.specs.Listed.{bound}
use Rattle.biblatex.specs.Indices.{name_of, named_index, names_in, meaning_in, index_without, without_index, named_down, AreInOrder}
use Rattle.biblatex.proofs.IndicesOrder.{compared}
use Rattle.biblatex.proofs.IndicesPlaces.{greater_absent}

-- a name before those that were changed, where the one that was bound is not equal to it
past : (here is : Bool) (old index : ℕ) (new rest : Option ℕ) → (is ≡ true → here ≡ false) → new ≡ cond (is || false) (Some index) rest → cond here (Some old) new ≡ cond (is || false) (Some index) (cond here (Some old) rest)
past true true old index new rest differs e = absurd (true≢false (differs refl))
past true false old index new rest differs e = refl
past false true old index new rest differs e = e
past false false old index new rest differs e = e

differs_there : (q name key : List ℕ) → bytes_eq name key ≡ false → bytes_eq q name ≡ true → bytes_eq q key ≡ false
differs_there q name key differs is = ap (λ (x : List ℕ). bytes_eq x key) ((bytes_eq-Decides q name).0 is) ∙ differs

flat : (is : Bool) (index : ℕ) (rest : Option ℕ) → cond is (Some index) rest ≡ cond (is || false) (Some index) rest
flat true index rest = refl
flat false index rest = refl

over : (is : Bool) (old index : ℕ) (rest : Option ℕ) → cond is (Some index) rest ≡ cond (is || false) (Some index) (cond is (Some old) rest)
over true old index rest = refl
over false old index rest = refl

-- a name that stands at a place means another index
pub rebound : (ns : List NamedIndex) (name : List ℕ) (index place : ℕ) (n : NamedIndex) → place < length ns → n ≡ get_or ns place n → ((k : ℕ) (d : NamedIndex) → k < place → bytes_eq name (name_of (get_or ns k d)) ≡ false) → name ≡ name_of n
    → meaning_in (names_in (set ns place (record { name = n.name; index = index }))) ≡ bound (name ∷ []) index (meaning_in (names_in ns))
rebound ns name index place n lt is before same = fun_ext (λ q. at ns place lt is before q)
  where
    at : (ns : List NamedIndex) (place : ℕ) → place < length ns → n ≡ get_or ns place n → ((k : ℕ) (d : NamedIndex) → k < place → bytes_eq name (name_of (get_or ns k d)) ≡ false)
        → (q : List ℕ) → meaning_in (names_in (set ns place (record { name = n.name; index = index }))) q ≡ bound (name ∷ []) index (meaning_in (names_in ns)) q
    at [] place lt is before q = absurd (omega (arith, lt))
    at (m ∷ ns) zero lt is before q =
        let named : name_of m ≡ name = sym (same ∙ ap name_of is) in
        rw (same, ← ap name_of is) (over (bytes_eq q (name_of n)) m.index index (meaning_in (names_in ns) q))
    at (m ∷ ns) (suc place) lt is before q =
        past (bytes_eq q (name_of m)) (bytes_eq q name) m.index index _ (meaning_in (names_in ns) q) (differs_there q name (name_of m) (before 0 m (omega arith)))
        (at ns place (omega (arith, lt)) is (λ k d low. before (suc k) d (omega (arith, low))) q)

-- a name that stands nowhere is put in at a place
pub put_in : (ns : List NamedIndex) (n : NamedIndex) (name : List ℕ) (index place : ℕ) → named_index n ≡ (name, index) → ((k : ℕ) (d : NamedIndex) → k < place → bytes_eq name (name_of (get_or ns k d)) ≡ false)
    → meaning_in (names_in (insert ns place n)) ≡ bound (name ∷ []) index (meaning_in (names_in ns))
put_in ns n name index place named before = fun_ext (λ q. at ns place before q)
  where
    first : (ns : List NamedIndex) (q : List ℕ) → cond (bytes_eq q (name_of n)) (Some n.index) (meaning_in (names_in ns) q) ≡ bound (name ∷ []) index (meaning_in (names_in ns)) q
    first ns q = (λ i. cond (bytes_eq q (named i).0) (Some (named i).1) (meaning_in (names_in ns) q)) ∙ flat (bytes_eq q name) index (meaning_in (names_in ns) q)

    at : (ns : List NamedIndex) (place : ℕ) → ((k : ℕ) (d : NamedIndex) → k < place → bytes_eq name (name_of (get_or ns k d)) ≡ false) → (q : List ℕ) → meaning_in (names_in (insert ns place n)) q ≡ bound (name ∷ []) index (meaning_in (names_in ns)) q
    at ns zero before q = first ns q
    at [] (suc place) before q = first [] q
    at (m ∷ ns) (suc place) before q =
        past (bytes_eq q (name_of m)) (bytes_eq q name) m.index index _ (meaning_in (names_in ns) q) (differs_there q name (name_of m) (before 0 m (omega arith)))
        (at ns place (λ k d low. before (suc k) d (omega (arith, low))) q)

-- names in order stay so where one means another index
pub order_rebound : (ns : List NamedIndex) (index place : ℕ) (n : NamedIndex) → n ≡ get_or ns place n → AreInOrder ns → AreInOrder (set ns place (record { name = n.name; index = index }))
order_rebound ns index place n is order = subst (IsStrictlySortedBy compared) (sym (map-set_same name_of ns place (record { name = n.name; index = index }) n (ap name_of is))) order

-- and where one is put in between those that are less and those that are greater
pub order_put_in : (ns : List NamedIndex) (n : NamedIndex) (place : ℕ) → AreInOrder ns → ((k : ℕ) (d : NamedIndex) → k < place → k < length ns → compared (name_of (get_or ns k d)) (name_of n) ≡ Less)
    → ((k : ℕ) (d : NamedIndex) → place ≤ k → k < length ns → compared (name_of n) (name_of (get_or ns k d)) ≡ Less) → AreInOrder (insert ns place n)
unfolding IsStrictlySortedBy
order_put_in ns n zero order before after = (all ns (λ k d within. after k d (omega arith) within), order)
  where
    all : (ms : List NamedIndex) → ((k : ℕ) (d : NamedIndex) → k < length ms → compared (name_of n) (name_of (get_or ms k d)) ≡ Less) → AllByRecursion (λ y. compared (name_of n) y ≡ Less) (map name_of ms)
    all [] each = tt
    all (m ∷ ms) each = (each 0 m (omega arith), all ms (λ k d within. each (suc k) d (omega (arith, within))))
order_put_in [] n (suc place) order before after = (tt, tt)
order_put_in (m ∷ ns) n (suc place) order before after = (
  among ns place order.0 (before 0 m (omega arith) (omega arith)),
  order_put_in ns n place order.1 (λ k d low within. before (suc k) d (omega (arith, low)) (omega (arith, within))) (λ k d up within. after (suc k) d (omega (arith, up)) (omega (arith, within))),
)
  where
    among : (ms : List NamedIndex) (place : ℕ) → AllByRecursion (λ y. compared (name_of m) y ≡ Less) (map name_of ms) → compared (name_of m) (name_of n) ≡ Less → AllByRecursion (λ y. compared (name_of m) y ≡ Less) (map name_of (insert ms place n))
    among ms zero each less = (less, each)
    among [] (suc place) each less = (less, tt)
    among (l ∷ ms) (suc place) each less = (each.0, among ms place each.1 less)

-- names without those of an index, and the others
abbrev pub without : ℕ → List NamedIndex → List NamedIndex
without out ns = map (named_down out) (filter (λ n. not (eqb n.index out)) ns)

pub meant_without : (ns : List NamedIndex) (out : ℕ) → AreInOrder ns → (q : List ℕ) → meaning_in (names_in (without out ns)) q ≡ without_index out (meaning_in (names_in ns)) q
unfolding IsStrictlySortedBy
meant_without [] out order q = refl
meant_without (n ∷ ns) out order q = by_tests (eqb n.index out) (bytes_eq q (name_of n)) refl refl (meant_without ns out order.1 q)
  where
    others : List NamedIndex
    others = filter (λ m. not (eqb m.index out)) ns

    none : bytes_eq q (name_of n) ≡ true → meaning_in (names_in ns) q ≡ None
    none e = greater_absent ns q (subst (λ (x : List ℕ). AllByRecursion (λ y. compared x y ≡ Less) (map name_of ns)) (sym ((bytes_eq-Decides q (name_of n)).0 e)) order.0)

    by_tests : (gone is : Bool) → eqb n.index out ≡ gone → bytes_eq q (name_of n) ≡ is → meaning_in (names_in (map (named_down out) others)) q ≡ option_and_then (index_without out) (meaning_in (names_in ns) q)
        → meaning_in (names_in (map (named_down out) (cond (not gone) (n ∷ others) others))) q ≡ option_and_then (index_without out) (cond is (Some n.index) (meaning_in (names_in ns) q))
    by_tests true true is_gone is_named more = more ∙ (ap (option_and_then (index_without out)) (none is_named) ∙ rw is_gone refl)
    by_tests true false is_gone is_named more = more
    by_tests false true is_gone is_named more = rw (is_named, is_gone) refl
    by_tests false false is_gone is_named more = rw is_named more

kept_greater : (name : List ℕ) (ms : List NamedIndex) (out : ℕ) → AllByRecursion (λ y. compared name y ≡ Less) (map name_of ms) → AllByRecursion (λ y. compared name y ≡ Less) (map name_of (without out ms))
kept_greater name [] out each = tt
kept_greater name (m ∷ ms) out each = by_test (eqb m.index out) (kept_greater name ms out each.1)
  where
    others : List NamedIndex
    others = filter (λ k. not (eqb k.index out)) ms

    by_test : (gone : Bool) → AllByRecursion (λ y. compared name y ≡ Less) (map name_of (map (named_down out) others))
        → AllByRecursion (λ y. compared name y ≡ Less) (map name_of (map (named_down out) (cond (not gone) (m ∷ others) others)))
    by_test true more = more
    by_test false more = (each.0, more)

pub order_without : (ns : List NamedIndex) (out : ℕ) → AreInOrder ns → AreInOrder (without out ns)
unfolding IsStrictlySortedBy
order_without [] out order = tt
order_without (n ∷ ns) out order = by_test (eqb n.index out) (order_without ns out order.1)
  where
    others : List NamedIndex
    others = filter (λ m. not (eqb m.index out)) ns

    by_test : (gone : Bool) → AreInOrder (map (named_down out) others) → AreInOrder (map (named_down out) (cond (not gone) (n ∷ others) others))
    by_test true more = more
    by_test false more = (kept_greater (name_of n) ns out order.0, more)
