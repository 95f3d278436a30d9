-- What stands at the place of a name.
use Rattle.std.proofs.Common.{◌≡◌, ℕ, zero, suc, ◌<◌, ◌≤◌, Bool, true, false, List, [], ◌∷◌, length, map, get_or, slice_get, bytes_eq, Some, None, Less, is_lt, true≢false, refl, sym, ap, ◌∙◌, inl, inr, arith}
use Rattle.std.proofs.lemmas.Bool.{cases_lt}
use Rattle.std.specs.List.{AllByRecursion}
use Rattle.std.proofs.lemmas.List.Sorted.{ranks_by, sorted_far}
use Rattle.std.proofs.lemmas.Cmp.{nat_list_cmp_total}
use Rattle.biblatex.specs.declared.indices.NamedIndex.{NamedIndex}
use Rattle.biblatex.specs.Indices.{name_of, names_in, meaning_in, has_name, AreSorted, IsPlace}
use Rattle.biblatex.proofs.IndicesOrder.{compared, is_order, is_Less, apart_back, apart, greater}

-- a name that none of the names is means nothing
pub absent : (ns : List NamedIndex) (name : List ℕ) → ((k : ℕ) (d : NamedIndex) → k < length ns → bytes_eq name (name_of (get_or ns k d)) ≡ false) → meaning_in (names_in ns) name ≡ None
absent [] name all = refl
absent (n ∷ ns) name all = rw (all 0 n (omega arith)) (absent ns name (λ k d lt. all (suc k) d (omega (arith, lt))))

-- a name means the index at the first place where it stands
pub found : (ns : List NamedIndex) (name : List ℕ) (place : ℕ) (d : NamedIndex) → place < length ns → ((k : ℕ) (e : NamedIndex) → k < place → bytes_eq name (name_of (get_or ns k e)) ≡ false)
    → bytes_eq name (name_of (get_or ns place d)) ≡ true → meaning_in (names_in ns) name ≡ Some (get_or ns place d).index
found [] name place d lt before is = absurd (omega (arith, lt))
found (n ∷ ns) name zero d lt before is = rw is refl
found (n ∷ ns) name (suc place) d lt before is = rw (before 0 n (omega arith)) (found ns name place d (omega (arith, lt)) (λ k e low. before (suc k) e (omega (arith, low))) is)

-- the names before the place of a name are not equal to it
pub before_apart : (ns : List NamedIndex) (name : List ℕ) (place : ℕ) → IsPlace ns name place → (k : ℕ) (d : NamedIndex) → k < place → bytes_eq name (name_of (get_or ns k d)) ≡ false
before_apart ns name place is k d low = apart_back (name_of (get_or ns k d)) name (is_Less (name_of (get_or ns k d)) name (is.0 k d (omega arith) low))

-- what is at a place
pub there : (ns : List NamedIndex) (place : ℕ) (name : List ℕ) → has_name name (slice_get ns place) ≡ true → place < length ns
there [] place name is = absurd (true≢false (sym is))
there (n ∷ ns) zero name is = omega arith
there (n ∷ ns) (suc place) name is = let lt = there ns place name is in omega (arith, lt)

pub at_place : (ns : List NamedIndex) (place : ℕ) (name : List ℕ) (d : NamedIndex) → place < length ns → has_name name (slice_get ns place) ≡ bytes_eq name (name_of (get_or ns place d))
at_place [] place name d lt = absurd (omega (arith, lt))
at_place (n ∷ ns) zero name d lt = refl
at_place (n ∷ ns) (suc place) name d lt = at_place ns place name d (omega (arith, lt))

-- where the name at its place is another one, all names from there on are greater
pub after_place : (ns : List NamedIndex) (name : List ℕ) (place : ℕ) → AreSorted ns → IsPlace ns name place → has_name name (slice_get ns place) ≡ false
    → (k : ℕ) (d : NamedIndex) → place ≤ k → k < length ns → compared name (name_of (get_or ns k d)) ≡ Less
after_place ns name place sorted is differs k d up within =
    let n = name_of (get_or ns place d) in
    let m = name_of (get_or ns k d) in
    let low : place < length ns = omega (arith, up, within) in
    let above : compared name n ≡ Less = greater n name (is.1 place d (omega arith) low) (sym (at_place ns place name d low) ∙ differs) in
    let far : is_lt (compared m n) ≡ false = sorted_far (λ (a b : NamedIndex). is_lt (compared (name_of a) (name_of b))) is_order ns sorted place k d up within in
    is_Less name m (by_answers (is_lt (compared name m)) (is_lt (compared name n)) (λ e. (ranks_by nat_list_cmp_total (λ (x : List ℕ). x)).chain name m n e far) (ap is_lt above))
  where
    by_answers : (a b : Bool) → (a ≡ false → b ≡ false) → b ≡ true → a ≡ true
    by_answers true b h e = refl
    by_answers false b h e = absurd (true≢false (sym e ∙ h refl))

-- what a name means by its place
pub meant_there : (ns : List NamedIndex) (name : List ℕ) (place : ℕ) (n : NamedIndex) → IsPlace ns name place → has_name name (slice_get ns place) ≡ true → n ≡ get_or ns place n → Some n.index ≡ meaning_in (names_in ns) name
meant_there ns name place n is here same =
    let lt = there ns place name here in
    ap (λ (m : NamedIndex). Some m.index) same ∙ sym (found ns name place n lt (before_apart ns name place is) (sym (at_place ns place name n lt) ∙ here))

pub meant_nowhere : (ns : List NamedIndex) (name : List ℕ) (place : ℕ) → AreSorted ns → IsPlace ns name place → has_name name (slice_get ns place) ≡ false → None ≡ meaning_in (names_in ns) name
meant_nowhere ns name place sorted is differs = sym (absent ns name each)
  where
    each : (k : ℕ) (d : NamedIndex) → k < length ns → bytes_eq name (name_of (get_or ns k d)) ≡ false
    each k d within = elim (cases_lt k place) [
      | inl lt ↦ before_apart ns name place is k d lt
      | inr le ↦ apart name (name_of (get_or ns k d)) (after_place ns name place sorted is differs k d le within)
    ]

-- no name that is less than all
pub greater_absent : (ns : List NamedIndex) (name : List ℕ) → AllByRecursion (λ y. compared name y ≡ Less) (map name_of ns) → meaning_in (names_in ns) name ≡ None
greater_absent [] name all = refl
greater_absent (n ∷ ns) name all = rw (apart name (name_of n) all.0) (greater_absent ns name all.1)
