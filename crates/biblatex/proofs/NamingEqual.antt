-- What the names that are equal to one decide, in their order.
use Rattle.std.proofs.Common.{◌≡◌, ℕ, Bool, true, false, cond, List, [], ◌∷◌, ◌++◌, map, bytes_eq, Option, Some, None, Less, refl, sym, ap, subst, ◌∙◌}
use Rattle.std.proofs.Math.Path.{fun_ext}
use Rattle.std.specs.Prelude.{◌||◌}
use Rattle.std.specs.List.{AllByRecursion}
use Rattle.std.specs.List.Sorted.{IsStrictlySortedBy}
use Rattle.std.proofs.lemmas.Slice.Eq.{bytes_eq-Decides}
use Rattle.biblatex.specs.declared.indices.NamedIndex.{NamedIndex}
use Rattle.biblatex_meaning.specs.Listed.{Meaning, bound}
use Rattle.biblatex.specs.Indices.{Names, name_of, names_in, meaning_in, AreInOrder}
use Rattle.biblatex.specs.Naming.{equal_names, bound_each}
use Rattle.biblatex.proofs.IndicesOrder.{compared}
use Rattle.biblatex.proofs.IndicesPlaces.{greater_absent}

-- a look-up sees no other names
meant_equal : (ns : Names) (name : List ℕ) → meaning_in ns name ≡ meaning_in (equal_names name ns) name
meant_equal [] name = refl
meant_equal (n ∷ ns) name = by_test (bytes_eq name n.0) refl (meant_equal ns name)
  where
    by_test : (is : Bool) → bytes_eq name n.0 ≡ is → meaning_in ns name ≡ meaning_in (equal_names name ns) name → cond is (Some n.1) (meaning_in ns name) ≡ meaning_in (cond is (n ∷ equal_names name ns) (equal_names name ns)) name
    by_test true e more = rw e refl
    by_test false e more = more

-- lists with the same equal names mean the same
pub meant_alike : (ns ms : Names) → ((name : List ℕ) → equal_names name ns ≡ equal_names name ms) → (name : List ℕ) → meaning_in ns name ≡ meaning_in ms name
meant_alike ns ms alike name = meant_equal ns name ∙ (ap (λ (es : Names). meaning_in es name) (alike name) ∙ sym (meant_equal ms name))

-- what a name meant before decides no other name
bound_start : (ns : Names) (m k : Meaning) (name : List ℕ) → m name ≡ k name → bound_each ns m name ≡ bound_each ns k name
bound_start [] m k name e = e
bound_start (n ∷ ns) m k name e = bound_start ns (bound (n.0 ∷ []) n.1 m) (bound (n.0 ∷ []) n.1 k) name (ap (λ (o : Option ℕ). cond (bytes_eq name n.0 || false) (Some n.1) o) e)

-- binding sees no other names
bound_equal : (ns : Names) (m : Meaning) (name : List ℕ) → bound_each ns m name ≡ bound_each (equal_names name ns) m name
bound_equal [] m name = refl
bound_equal (n ∷ ns) m name = bound_equal ns (bound (n.0 ∷ []) n.1 m) name ∙ by_test (bytes_eq name n.0) refl
  where
    by_test : (is : Bool) → bytes_eq name n.0 ≡ is → bound_each (equal_names name ns) (bound (n.0 ∷ []) n.1 m) name ≡ bound_each (cond is (n ∷ equal_names name ns) (equal_names name ns)) m name
    by_test true e = refl
    by_test false e = bound_start (equal_names name ns) (bound (n.0 ∷ []) n.1 m) m name (rw e refl)

pub bound_alike : (ns ms : Names) (m : Meaning) → ((name : List ℕ) → equal_names name ns ≡ equal_names name ms) → bound_each ns m ≡ bound_each ms m
bound_alike ns ms m alike = fun_ext (λ name. bound_equal ns m name ∙ (ap (λ (es : Names). bound_each es m name) (alike name) ∙ sym (bound_equal ms m name)))

abbrev or_before : Option ℕ → Option ℕ → Option ℕ
or_before None before = before
or_before (Some index) before = Some index

-- of names in order each is bound once
bound_once : (ns : List NamedIndex) → AreInOrder ns → (m : Meaning) (name : List ℕ) → bound_each (names_in ns) m name ≡ or_before (meaning_in (names_in ns) name) (m name)
unfolding IsStrictlySortedBy
bound_once [] order m name = refl
bound_once (n ∷ ns) order m name = bound_once ns order.1 (bound (name_of n ∷ []) n.index m) name ∙ by_test (bytes_eq name (name_of n)) refl
  where
    none : bytes_eq name (name_of n) ≡ true → meaning_in (names_in ns) name ≡ None
    none e = greater_absent ns name (subst (λ (x : List ℕ). AllByRecursion (λ y. compared x y ≡ Less) (map name_of ns)) (sym ((bytes_eq-Decides name (name_of n)).0 e)) order.0)

    by_test : (is : Bool) → bytes_eq name (name_of n) ≡ is → or_before (meaning_in (names_in ns) name) (cond (is || false) (Some n.index) (m name)) ≡ or_before (cond is (Some n.index) (meaning_in (names_in ns) name)) (m name)
    by_test true e = rw (none e) refl
    by_test false e = refl

pub bound_alone : (ns : List NamedIndex) → AreInOrder ns → meaning_in (names_in ns) ≡ bound_each (names_in ns) (λ name. None)
bound_alone ns order = fun_ext (λ name. sym (bound_once ns order (λ q. None) name ∙ or_nothing (meaning_in (names_in ns) name)))
  where
    or_nothing : (o : Option ℕ) → or_before o None ≡ o
    or_nothing None = refl
    or_nothing (Some index) = refl

-- one more name is bound last
pub bound_more : (ns : Names) (n : List ℕ × ℕ) (m : Meaning) → bound_each (ns ++ n ∷ []) m ≡ bound (n.0 ∷ []) n.1 (bound_each ns m)
bound_more [] n m = refl
bound_more (k ∷ ns) n m = bound_more ns n (bound (k.0 ∷ []) k.1 m)
