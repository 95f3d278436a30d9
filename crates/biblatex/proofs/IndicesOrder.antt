-- Names in the order of their bytes.
use Rattle.std.proofs.Common.{◌≡◌, ℕ, ◌+◌, ◌<◌, Bool, true, false, List, length, map, get_or, bytes_eq, Ordering, Less, Equal, Greater, nat_cmp, is_eq, is_lt, true≢false, refl, sym, ap, ◌∙◌, arith}
use Rattle.std.specs.Cmp.{IsStrictWeakOrder}
use Rattle.std.specs.Cmp.Lexicographic.{slice_cmp}
use Rattle.std.specs.Ordering.{ordering_reverse}
use Rattle.std.specs.List.Sorted.{IsPartitionedBy}
use Rattle.std.proofs.lemmas.Cmp.{nat_list_cmp_total}
use Rattle.std.proofs.lemmas.List.Sorted.{ranks_by, sorted_far}
use Rattle.std.proofs.lemmas.Map.Keys.{Less-from_sorted}
use Rattle.std.proofs.lemmas.Map.Text.{is_eq-slice_cmp}
use Rattle.std.proofs.lemmas.List.{get_or-map, length-map}
use Rattle.std.proofs.lemmas.Slice.Eq.{bytes_eq-Decides}
use Rattle.std.proofs.lemmas.Bool.Decides.{same_from_decides}
use Rattle.biblatex.specs.declared.indices.NamedIndex.{NamedIndex}
use Rattle.biblatex.specs.Indices.{name_of, is_less, AreSorted, AreInOrder}

-- how two names compare
abbrev pub compared : List ℕ → List ℕ → Ordering
compared a b = slice_cmp nat_cmp a b

pub bytes_eq-turned : (xs ys : List ℕ) → bytes_eq xs ys ≡ bytes_eq ys xs
bytes_eq-turned xs ys = same_from_decides (bytes_eq xs ys) (bytes_eq ys xs) (bytes_eq-Decides xs ys)
    ((λ e. sym ((bytes_eq-Decides ys xs).0 e)), (λ e. (bytes_eq-Decides ys xs).1 (sym e)))

less_from_test : (o : Ordering) → is_lt o ≡ true → o ≡ Less
less_from_test Less e = refl
less_from_test Equal e = absurd (true≢false (sym e))
less_from_test Greater e = absurd (true≢false (sym e))

-- a name that is less than another
pub is_Less : (a b : List ℕ) → is_lt (compared a b) ≡ true → compared a b ≡ Less
is_Less a b e = less_from_test (compared a b) e

-- names of which one is less are not equal
pub apart : (a b : List ℕ) → compared a b ≡ Less → bytes_eq a b ≡ false
apart a b e = sym (is_eq-slice_cmp a b) ∙ ap is_eq e

pub apart_back : (a b : List ℕ) → compared a b ≡ Less → bytes_eq b a ≡ false
apart_back a b e = bytes_eq-turned b a ∙ apart a b e

-- a name that is neither less than another nor equal to it is greater
pub greater : (key name : List ℕ) → is_lt (compared key name) ≡ false → bytes_eq name key ≡ false → compared name key ≡ Less
greater key name low differs = by_order (compared name key) refl (sym (is_eq-slice_cmp name key) ∙ refl) (nat_list_cmp_total.antisymm key name)
  where
    by_order : (o : Ordering) → compared name key ≡ o → bytes_eq name key ≡ is_eq (compared name key) → compared key name ≡ ordering_reverse (compared name key) → compared name key ≡ Less
    by_order Less e same turned = e
    by_order Equal e same turned = absurd (true≢false (sym (sym differs ∙ (same ∙ ap is_eq e)) ∙ refl))
    by_order Greater e same turned = absurd (true≢false (sym (sym low ∙ ap is_lt (turned ∙ ap ordering_reverse e))))

-- the test of the order of names
pub is_order : IsStrictWeakOrder (λ (a b : NamedIndex). is_lt (compared (name_of a) (name_of b)))
is_order = ranks_by nat_list_cmp_total name_of

-- names of which each is less than the next are sorted
pub in_order_sorted : (ns : List NamedIndex) → AreInOrder ns → AreSorted ns
in_order_sorted ns order k d low within =
    let names = map name_of ns in
    let next : k + 1 < length names = omega (arith, within, length-map ns name_of) in
    let at = get_or-map name_of ns k d (name_of d) (omega (arith, within)) in
    let after = get_or-map name_of ns (k + 1) d (name_of d) within in
    let less = Less-from_sorted compared names k (k + 1) (name_of d) order (omega arith) next in
    let turned = nat_list_cmp_total.antisymm (name_of (get_or ns (k + 1) d)) (name_of (get_or ns k d)) in
    let same : compared (name_of (get_or ns k d)) (name_of (get_or ns (k + 1) d)) ≡ Less = rw (← at, ← after) less in
    ap is_lt (turned ∙ ap ordering_reverse same)

by_answers : (a b : Bool) → (a ≡ false → b ≡ false) → b ≡ true → a ≡ true
by_answers true b h e = refl
by_answers false b h e = absurd (true≢false (sym e ∙ h refl))

-- what a binary search asks of sorted names: none that is less than a name comes after one that is not
pub parted : (ns : List NamedIndex) (name : List ℕ) → AreSorted ns → IsPartitionedBy (is_less name) ns
parted ns name sorted i j d up within less =
    let far = sorted_far (λ (a b : NamedIndex). is_lt (compared (name_of a) (name_of b))) is_order ns sorted i j d up within in
    by_answers (is_less name (get_or ns i d)) (is_less name (get_or ns j d))
    (λ e. (ranks_by nat_list_cmp_total (λ (x : List ℕ). x)).chain (name_of (get_or ns j d)) (name_of (get_or ns i d)) name far e) less
