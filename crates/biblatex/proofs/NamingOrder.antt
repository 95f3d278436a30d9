-- Names that a stable sort put in order, and names that are in order already.
use Rattle.std.proofs.Common.{◌≡◌, ℕ, ◌+◌, ◌<◌, Bool, true, false, cond, not, ◌&&◌, List, [], ◌∷◌, ◌++◌, map, length, get_or, filter, string_bytes, bytes_eq, String, Global, Ordering, Less, Equal, Greater, is_lt, is_eq, is_ge, true≢false, refl, sym, ap, ◌∙◌, arith}
use Rattle.std.proofs.Math.Path.{fun_ext}
use Rattle.std.specs.Ordering.{ordering_reverse}
use Rattle.std.specs.List.Sorted.{IsStrictlySortedBy, IsStableBy, ties}
use Rattle.std.proofs.lemmas.Cmp.{nat_list_cmp_total}
use Rattle.std.proofs.lemmas.List.{get_or-map, length-map, map_push}
use Rattle.std.proofs.lemmas.Map.Keys.{sorted_from_all_adjacent}
use Rattle.std.proofs.lemmas.Map.Text.{is_eq-slice_cmp}
use Rattle.std.proofs.lemmas.Slice.Eq.{bytes_eq-Decides}
use Rattle.biblatex.specs.declared.indices.NamedIndex.{NamedIndex}
use Rattle.biblatex.specs.Indices.{Names, name_of, named_index, names_in, AreInOrder}
use Rattle.biblatex.specs.Naming.{with_index, numbered, equal_names}
use Rattle.biblatex.proofs.IndicesOrder.{compared}

-- the test by which names are sorted
abbrev pub is_less_than : NamedIndex → NamedIndex → Bool
is_less_than a b = is_lt (compared (name_of a) (name_of b))

-- names that tie are equal
tied : (x n : NamedIndex) → bytes_eq (name_of x) (name_of n) ≡ ties is_less_than x n
tied x n = sym (is_eq-slice_cmp (name_of x) (name_of n)) ∙ by_order (compared (name_of x) (name_of n)) (compared (name_of n) (name_of x)) (nat_list_cmp_total.antisymm (name_of n) (name_of x))
  where
    by_order : (o p : Ordering) → p ≡ ordering_reverse o → is_eq o ≡ (not (is_lt o) && not (is_lt p))
    by_order Less p e = refl
    by_order Equal p e = rw e refl
    by_order Greater p e = rw e refl

abbrev has : List ℕ → NamedIndex → Bool
has name n = bytes_eq name (name_of n)

-- the first of those that pass a test passes it
first_passes : (test : NamedIndex → Bool) (ns : List NamedIndex) (x : NamedIndex) (rest : List NamedIndex) → filter test ns ≡ x ∷ rest → test x ≡ true
first_passes test [] x rest is = absurd cc
first_passes test (n ∷ ns) x rest is = by_test (test n) refl is (first_passes test ns x rest)
  where
    first : List NamedIndex → NamedIndex
    first [] = n
    first (y ∷ ys) = y

    by_test : (b : Bool) → test n ≡ b → cond b (n ∷ filter test ns) (filter test ns) ≡ x ∷ rest → (filter test ns ≡ x ∷ rest → test x ≡ true) → test x ≡ true
    by_test true e same more = ap test (sym (ap first same)) ∙ e
    by_test false e same more = more same

-- a stable sort keeps the order of equal names
stable : (xs ys : List NamedIndex) → IsStableBy is_less_than xs ys → (name : List ℕ) → filter (has name) ys ≡ filter (has name) xs
stable xs ys keeps name = by_old (filter (has name) xs) refl
  where
    by_one : (x : NamedIndex) → has name x ≡ true → filter (has name) ys ≡ filter (has name) xs
    by_one x is =
        let same : has name ≡ ties is_less_than x = fun_ext (λ n. ap (λ (k : List ℕ). bytes_eq k (name_of n)) ((bytes_eq-Decides name (name_of x)).0 is) ∙ tied x n) in
        ap (λ (test : NamedIndex → Bool). filter test ys) same ∙ (keeps x ∙ ap (λ (test : NamedIndex → Bool). filter test xs) (sym same))

    by_new : (os ns : List NamedIndex) → filter (has name) xs ≡ os → filter (has name) ys ≡ ns → os ≡ [] → filter (has name) ys ≡ filter (has name) xs
    by_new os [] is_old is_new none = is_new ∙ sym (is_old ∙ none)
    by_new os (y ∷ rest) is_old is_new none = by_one y (first_passes (has name) ys y rest is_new)

    by_old : (os : List NamedIndex) → filter (has name) xs ≡ os → filter (has name) ys ≡ filter (has name) xs
    by_old [] is = by_new [] (filter (has name) ys) is refl refl
    by_old (x ∷ rest) is = by_one x (first_passes (has name) xs x rest is)

equal_in : (ns : List NamedIndex) (name : List ℕ) → equal_names name (names_in ns) ≡ map named_index (filter (has name) ns)
equal_in [] name = refl
equal_in (n ∷ ns) name = by_test (bytes_eq name (name_of n)) (equal_in ns name)
  where
    by_test : (b : Bool) → equal_names name (names_in ns) ≡ map named_index (filter (has name) ns)
        → cond b (named_index n ∷ equal_names name (names_in ns)) (equal_names name (names_in ns)) ≡ map named_index (cond b (n ∷ filter (has name) ns) (filter (has name) ns))
    by_test true more = ap (λ (ms : Names). named_index n ∷ ms) more
    by_test false more = more

pub equal_stable : (xs ys : List NamedIndex) → IsStableBy is_less_than xs ys → (name : List ℕ) → equal_names name (names_in ys) ≡ equal_names name (names_in xs)
equal_stable xs ys keeps name = equal_in ys name ∙ (ap (map named_index) (stable xs ys keeps name) ∙ sym (equal_in xs name))

-- names of which each is less than the next are in order
pub order_from_next : (ns : List NamedIndex) → ((k : ℕ) (d : NamedIndex) → k + 1 < length ns → compared (name_of (get_or ns k d)) (name_of (get_or ns (k + 1) d)) ≡ Less) → AreInOrder ns
unfolding IsStrictlySortedBy
order_from_next [] next = tt
order_from_next (n ∷ ns) next = sorted_from_all_adjacent nat_list_cmp_total (map name_of (n ∷ ns)) (name_of n) (λ k within.
    let low : k + 1 < length (n ∷ ns) = omega (arith, within, length-map (n ∷ ns) name_of) in
    let at = get_or-map name_of (n ∷ ns) k n (name_of n) (omega (arith, low)) in
    let after = get_or-map name_of (n ∷ ns) (k + 1) n (name_of n) low in
    rw (at, after) (next k n low))

pub order_nothing : AreInOrder []
unfolding IsStrictlySortedBy
order_nothing = tt

pub not_ge : (o : Ordering) → is_ge o ≡ false → o ≡ Less
not_ge Less e = refl
not_ge Equal e = absurd (true≢false e)
not_ge Greater e = absurd (true≢false e)

-- one more name, last
numbered_last : (ys : List (String Global)) (y : String Global) (index : ℕ) → numbered (map string_bytes (ys ++ y ∷ [])) index ≡ numbered (map string_bytes ys) index ++ (string_bytes y, index) ∷ []
numbered_last [] y index = refl
numbered_last (z ∷ ys) y index = ap (λ (ns : Names). with_index index (string_bytes z) ∷ ns) (numbered_last ys y index)

pub joined : (xs ys zs : Names) → (xs ++ ys) ++ zs ≡ xs ++ (ys ++ zs)
joined [] ys zs = refl
joined (x ∷ xs) ys zs = ap (λ (ns : Names). x ∷ ns) (joined xs ys zs)

pub name_last : (ns : List NamedIndex) (n : NamedIndex) (old : Names) (ys : List (String Global)) (y : String Global) (index : ℕ) → named_index n ≡ (string_bytes y, index) → names_in ns ≡ old ++ numbered (map string_bytes ys) index
    → names_in (ns ++ n ∷ []) ≡ old ++ numbered (map string_bytes (ys ++ y ∷ [])) index
name_last ns n old ys y index named is =
    map_push named_index ns n
    ∙ ((λ i. is i ++ named i ∷ [])
    ∙ (joined old (numbered (map string_bytes ys) index) ((string_bytes y, index) ∷ [])
    ∙ ap (λ (xs : Names). old ++ xs) (sym (numbered_last ys y index))))
