-- Fields are written under names of their own exactly where none has the other name of another one.
use Rattle.std.proofs.Common.{◌≡◌, ℕ, Bool, true, false, true≢false, cond, not, ◌⊎◌, inl, inr, List, [], ◌∷◌, map, Option, Some, None, Less, nat_cmp, refl, sym, ap, subst, ◌∙◌}
use Rattle.std.specs.Prelude.{is_some, option_and_then}
use Rattle.std.specs.Cmp.Lexicographic.{slice_cmp}
use Rattle.std.specs.List.{AllByRecursion, IsDistinct, list_all, list_any}
use Rattle.std.specs.List.Sorted.{IsStrictlySortedBy}
use Rattle.std.specs.Map.{keys_of, lookup}
use Rattle.std.specs.Option.{option_map}
use Rattle.std.specs.Ordering.{is_lt}
use Rattle.std.specs.Str.{bytes_eq}
use Rattle.std.proofs.lemmas.Bool.{and_from, and_parts, false_from_ne_true, not-true, not_from_false, or_from, or_parts}
use Rattle.std.proofs.lemmas.Option.{same_Some}
use Rattle.std.proofs.lemmas.Slice.Eq.{bytes_eq-Decides}
use Rattle.biblatex.specs.Entries.{Source}
use Rattle.biblatex.specs.Fields.{Named, AreInOrder, value_named}
use Rattle.biblatex.specs.Value.{Value}
use Rattle.biblatex_writing.specs.FieldNames.{is_never_written, other_names, written_name}
use Rattle.biblatex_writing.specs.Settled.{are_distinct}
use Rattle.biblatex_writing.proofs.NamesWritten.{own_name}
use Rattle.biblatex_writing.proofs.OrderNames.{less_itself}
use Rattle.interop_roads.specs.Roads.{AreWrittenApart}
use Rattle.interop_roads.proofs.NamesKnown.{other_never, other_written, same_itself, written_as}
use Rattle.cite_uses.specs.Flattened.{has_other, is_alone, is_written_apart}

-- a value is there where its view is
pub there_if : {X : Type 0} (o : Option X) (view : X → Value) (p : Option Value) → option_map view o ≡ p → is_some o ≡ is_some p
there_if None view p is = ap (λ (q : Option Value). is_some q) is
there_if (Some x) view p is = ap (λ (q : Option Value). is_some q) is

-- a field has the name
abbrev IsThere : List Named → List ℕ → Type 0
IsThere fs name = is_some (value_named name fs) ≡ true

there_first : (f : Named) (fs : List Named) → IsThere (f ∷ fs) f.0
there_first f fs = ap (λ (b : Bool). is_some (cond b (Some f.1) (value_named f.0 fs))) (same_itself f.0)

there_more : (f : Named) (fs : List Named) (name : List ℕ) → IsThere fs name → IsThere (f ∷ fs) name
there_more f fs name is = by (bytes_eq name f.0)
  where
    by : (b : Bool) → is_some (cond b (Some f.1) (value_named name fs)) ≡ true
    by true = refl
    by false = is

each_more : (f : Named) (fs gs : List Named) → AllByRecursion (λ g. IsThere fs g.0) gs → AllByRecursion (λ g. IsThere (f ∷ fs) g.0) gs
each_more f fs [] all = tt
each_more f fs (g ∷ gs) all = (there_more f fs g.0 all.0, each_more f fs gs all.1)

-- each field has its name
all_there : (fs : List Named) → AllByRecursion (λ f. IsThere fs f.0) fs
all_there [] = tt
all_there (f ∷ fs) = (there_first f fs, each_more f fs fs (all_there fs))

module _ (all : List Named) where
  other_found : (name other : List ℕ) → lookup (bytes_eq name) other_names ≡ Some other → IsThere all other → has_other all name ≡ true
  other_found name other is there = ap (λ (o : Option (List ℕ)). is_some (option_and_then (λ n. value_named n all) o)) is ∙ there

  -- names of fields that are written as one are one, where none of the fields has the other name of either
  one_name : (p q : List ℕ) → IsThere all p → IsThere all q → has_other all p ≡ false → has_other all q ≡ false → written_name p ≡ written_name q → p ≡ q
  one_name p q has has_too alone alone_too same = by (written_as p).either (written_as q).either
    where
      by : (p ≡ written_name p) ⊎ (lookup (bytes_eq (written_name p)) other_names ≡ Some p) → (q ≡ written_name q) ⊎ (lookup (bytes_eq (written_name q)) other_names ≡ Some q) → p ≡ q
      by (inl own) (inl own_too) = own ∙ (same ∙ sym own_too)
      by (inl own) (inr other) = absurd (true≢false (sym (other_found p q (ap (λ (k : List ℕ). lookup (bytes_eq k) other_names) (own ∙ same) ∙ other) has_too) ∙ alone))
      by (inr other) (inl own) = absurd (true≢false (sym (other_found q p (ap (λ (k : List ℕ). lookup (bytes_eq k) other_names) (own ∙ sym same) ∙ other) has) ∙ alone_too))
      by (inr other) (inr other_too) = same_Some p q (sym other ∙ (ap (λ (k : List ℕ). lookup (bytes_eq k) other_names) same ∙ other_too))

  -- a field is written under another name than each of the fields after it
  differs : (f : Named) (gs : List Named) → IsThere all f.0 → has_other all f.0 ≡ false → AllByRecursion (λ y. slice_cmp nat_cmp f.0 y ≡ Less) (keys_of gs)
      → AllByRecursion (λ g. IsThere all g.0) gs → list_all (is_alone all) gs ≡ true → list_any (bytes_eq (written_name f.0)) (map (λ g. written_name g.0) gs) ≡ false
  differs f [] has alone below there none = refl
  differs f (g ∷ gs) has alone below there none =
      let p = and_parts (is_alone all g) (list_all (is_alone all) gs) none in
      or_from (bytes_eq (written_name f.0) (written_name g.0)) (list_any (bytes_eq (written_name f.0)) (map (λ (h : Named). written_name h.0) gs))
      (false_from_ne_true (bytes_eq (written_name f.0) (written_name g.0)) (λ e. apart (one_name f.0 g.0 has there.0 alone (not-true (has_other all g.0) p.0) ((bytes_eq-Decides (written_name f.0) (written_name g.0)).0 e))))
      (differs f gs has alone below.1 there.1 p.1)
    where
      apart : f.0 ≡ g.0 → ⊥
      apart is = true≢false (sym (ap is_lt below.0) ∙ (ap (λ (k : List ℕ). is_lt (slice_cmp nat_cmp f.0 k)) (sym is) ∙ less_itself f.0))

  distinct : (gs : List Named) → AreInOrder gs → AllByRecursion (λ g. IsThere all g.0) gs → list_all (is_alone all) gs ≡ true → are_distinct (map (λ g. written_name g.0) gs) ≡ true
  unfolding IsStrictlySortedBy
  distinct [] sorted there none = refl
  distinct (g ∷ gs) sorted there none =
      let p = and_parts (is_alone all g) (list_all (is_alone all) gs) none in
      and_from (not (list_any (bytes_eq (written_name g.0)) (map (λ (h : Named). written_name h.0) gs))) (are_distinct (map (λ (h : Named). written_name h.0) gs))
      (not_from_false (list_any (bytes_eq (written_name g.0)) (map (λ (h : Named). written_name h.0) gs)) (differs g gs there.0 (not-true (has_other all g.0) p.0) sorted.0 there.1 p.1))
      (distinct gs sorted.1 there.1 p.1)

-- no field is written under a name under which none of these is written
written_not : (key : List ℕ) (fs : List Named) → list_any (bytes_eq key) (map (λ f. written_name f.0) fs) ≡ false → (name : List ℕ) → IsThere fs name → written_name name ≡ key → ⊥
written_not key [] none name there same = true≢false (sym there)
written_not key (f ∷ fs) none name there same =
    let p = or_parts (bytes_eq key (written_name f.0)) (list_any (bytes_eq key) (map (λ (g : Named). written_name g.0) fs)) none in
    by p.0 (written_not key fs p.1 name) (bytes_eq name f.0) refl there
  where
    by : bytes_eq key (written_name f.0) ≡ false → (IsThere fs name → written_name name ≡ key → ⊥) → (b : Bool) → bytes_eq name f.0 ≡ b → is_some (cond b (Some f.1) (value_named name fs)) ≡ true → ⊥
    by other more true e is = true≢false (sym ((bytes_eq-Decides key (written_name f.0)).1 (sym same ∙ ap written_name ((bytes_eq-Decides name f.0).0 e))) ∙ other)
    by other more false e is = more is same

-- fields that are written under names of their own: names that are written as one are one
distinct_one : (fs : List Named) → are_distinct (map (λ f. written_name f.0) fs) ≡ true → (p q : List ℕ) → IsThere fs p → IsThere fs q → written_name p ≡ written_name q → p ≡ q
distinct_one [] apart p q has has_too same = absurd (true≢false (sym has))
distinct_one (f ∷ fs) apart p q has has_too same =
    let a = and_parts (not (list_any (bytes_eq (written_name f.0)) (map (λ (g : Named). written_name g.0) fs))) (are_distinct (map (λ (g : Named). written_name g.0) fs)) apart in
    by (not-true (list_any (bytes_eq (written_name f.0)) (map (λ (g : Named). written_name g.0) fs)) a.0) (distinct_one fs a.1 p q) (bytes_eq p f.0) refl (bytes_eq q f.0) refl has has_too
  where
    by : list_any (bytes_eq (written_name f.0)) (map (λ (g : Named). written_name g.0) fs) ≡ false → (IsThere fs p → IsThere fs q → written_name p ≡ written_name q → p ≡ q)
        → (b : Bool) → bytes_eq p f.0 ≡ b → (d : Bool) → bytes_eq q f.0 ≡ d → is_some (cond b (Some f.1) (value_named p fs)) ≡ true → is_some (cond d (Some f.1) (value_named q fs)) ≡ true → p ≡ q
    by none more true e true g is is_too = (bytes_eq-Decides p f.0).0 e ∙ sym ((bytes_eq-Decides q f.0).0 g)
    by none more true e false g is is_too = absurd (written_not (written_name f.0) fs none q is_too (sym same ∙ ap written_name ((bytes_eq-Decides p f.0).0 e)))
    by none more false e true g is is_too = absurd (written_not (written_name f.0) fs none p is (same ∙ ap written_name ((bytes_eq-Decides q f.0).0 g)))
    by none more false e false g is is_too = more is is_too same

module _ (all : List Named) (apart : are_distinct (map (λ (f : Named). written_name f.0) all) ≡ true) where
  no_other : (name : List ℕ) → IsThere all name → has_other all name ≡ false
  no_other name there = by (lookup (bytes_eq name) other_names) refl
    where
      clash : (other : List ℕ) → lookup (bytes_eq name) other_names ≡ Some other → IsThere all other → ⊥
      clash other is has =
          let written : written_name other ≡ name = other_written name other is in
          let may : is_never_written name ≡ false = subst (λ (k : List ℕ). is_never_written k ≡ false) written (written_as other).may in
          let same : other ≡ name = distinct_one all apart other name has there (written ∙ sym (own_name name may)) in
          true≢false (sym (other_never name other is) ∙ (ap is_never_written same ∙ may))

      by : (o : Option (List ℕ)) → lookup (bytes_eq name) other_names ≡ o → is_some (option_and_then (λ n. value_named n all) o) ≡ false
      by None is = refl
      by (Some other) is = false_from_ne_true (is_some (value_named other all)) (λ has. clash other is has)

  none_others : (gs : List Named) → AllByRecursion (λ g. IsThere all g.0) gs → list_all (is_alone all) gs ≡ true
  none_others [] there = refl
  none_others (g ∷ gs) there = and_from (is_alone all g) (list_all (is_alone all) gs) (not_from_false (has_other all g.0) (no_other g.0 there.0)) (none_others gs there.1)

same_tests : (a b : Bool) → (a ≡ true → b ≡ true) → (b ≡ true → a ≡ true) → a ≡ b
same_tests true b to from = sym (to refl)
same_tests false true to from = from refl
same_tests false false to from = refl

pub alone_apart : (fs : List Named) → AreInOrder fs → list_all (is_alone fs) fs ≡ are_distinct (map (λ f. written_name f.0) fs)
alone_apart fs sorted =
    same_tests (list_all (is_alone fs) fs) (are_distinct (map (λ (f : Named). written_name f.0) fs))
    (λ none. distinct fs fs sorted (all_there fs) none)
    (λ apart. none_others fs apart fs (all_there fs))

-- the same as a test and as a fact
none_equal : (k : List ℕ) (ks : List (List ℕ)) → list_any (bytes_eq k) ks ≡ false → AllByRecursion (λ y. bytes_eq k y ≡ false) ks
none_equal k [] none = tt
none_equal k (y ∷ ks) none = let p = or_parts (bytes_eq k y) (list_any (bytes_eq k) ks) none in (p.0, none_equal k ks p.1)

any_equal : (k : List ℕ) (ks : List (List ℕ)) → AllByRecursion (λ y. bytes_eq k y ≡ false) ks → list_any (bytes_eq k) ks ≡ false
any_equal k [] all = refl
any_equal k (y ∷ ks) all = or_from (bytes_eq k y) (list_any (bytes_eq k) ks) all.0 (any_equal k ks all.1)

tested : (ks : List (List ℕ)) → are_distinct ks ≡ true → IsDistinct bytes_eq ks
unfolding IsDistinct
tested [] is = tt
tested (k ∷ ks) is =
    let p = and_parts (not (list_any (bytes_eq k) ks)) (are_distinct ks) is in
    (none_equal k ks (not-true (list_any (bytes_eq k) ks) p.0), tested ks p.1)

passes : (ks : List (List ℕ)) → IsDistinct bytes_eq ks → are_distinct ks ≡ true
unfolding IsDistinct
passes [] apart = refl
passes (k ∷ ks) apart = and_from (not (list_any (bytes_eq k) ks)) (are_distinct ks) (not_from_false (list_any (bytes_eq k) ks) (any_equal k ks apart.0)) (passes ks apart.1)

pub all_apart : (es : List Source) → list_all is_written_apart es ≡ true → AreWrittenApart es
all_apart [] is = tt
all_apart (e ∷ es) is =
    let p = and_parts (is_written_apart e) (list_all is_written_apart es) is in
    (tested (map (λ (f : Named). written_name f.0) e.fields) p.0, all_apart es p.1)

pub apart_all : (es : List Source) → AreWrittenApart es → list_all is_written_apart es ≡ true
apart_all [] all = refl
apart_all (e ∷ es) all = and_from (is_written_apart e) (list_all is_written_apart es) (passes (map (λ (f : Named). written_name f.0) e.fields) all.0) (apart_all es all.1)
