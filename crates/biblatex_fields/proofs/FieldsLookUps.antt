-- What a look-up finds after a field was put in or taken out.
use Rattle.std.proofs.Common.{◌≡◌, ℕ, Bool, true, false, cond, List, [], ◌∷◌, Some, None, Ordering, Less, Equal, Greater, bytes_eq, nat_cmp, is_eq, true≢false, refl, sym, ap, subst, ◌∙◌}
use Rattle.std.specs.Cmp.Lexicographic.{slice_cmp}
use Rattle.std.specs.Ordering.{match_ordering}
use Rattle.std.specs.List.{AllByRecursion}
use Rattle.std.specs.List.Sorted.{IsStrictlySortedBy}
use Rattle.std.specs.Map.{keys_of}
use Rattle.std.proofs.lemmas.Map.Text.{is_eq-slice_cmp}
use Rattle.std.proofs.lemmas.Slice.Eq.{bytes_eq-Decides}
use Rattle.biblatex_fields.specs.Value.{Value}
use Rattle.biblatex_fields.specs.Fields.{Named, value_named, with_field, without_field, AreInOrder}

-- names that are equal to the same one
same_test : (name key q : List ℕ) → bytes_eq name key ≡ true → bytes_eq q key ≡ bytes_eq q name
same_test name key q e = ap (bytes_eq q) (sym ((bytes_eq-Decides name key).0 e))

pub put_found : (fs : List Named) (name : List ℕ) (v : Value) (q : List ℕ) → value_named q (with_field fs name v) ≡ cond (bytes_eq q name) (Some v) (value_named q fs)
put_found [] name v q = refl
put_found (f ∷ fs) name v q = by_order (slice_cmp nat_cmp name f.0) refl (put_found fs name v q)
  where
    equal_case : (b d : Bool) → b ≡ d → cond b (Some v) (value_named q fs) ≡ cond d (Some v) (cond b (Some f.1) (value_named q fs))
    equal_case true true e = refl
    equal_case true false e = absurd (true≢false e)
    equal_case false true e = absurd (true≢false (sym e))
    equal_case false false e = refl

    greater_case : (b d : Bool) → bytes_eq q f.0 ≡ b → bytes_eq q name ≡ d → bytes_eq name f.0 ≡ false → value_named q (with_field fs name v) ≡ cond d (Some v) (value_named q fs)
        → cond b (Some f.1) (value_named q (with_field fs name v)) ≡ cond d (Some v) (cond b (Some f.1) (value_named q fs))
    greater_case true true eb ed apart more = absurd (true≢false (sym (sym apart ∙ ap (λ (x : List ℕ). bytes_eq x f.0) (sym ((bytes_eq-Decides q name).0 ed)) ∙ eb)))
    greater_case true false eb ed apart more = refl
    greater_case false d eb ed apart more = more

    by_order : (o : Ordering) → slice_cmp nat_cmp name f.0 ≡ o → value_named q (with_field fs name v) ≡ cond (bytes_eq q name) (Some v) (value_named q fs)
        → value_named q (match_ordering o ((name, v) ∷ f ∷ fs) ((f.0, v) ∷ fs) (f ∷ with_field fs name v)) ≡ cond (bytes_eq q name) (Some v) (value_named q (f ∷ fs))
    by_order Less e more = refl
    by_order Equal e more = equal_case (bytes_eq q f.0) (bytes_eq q name) (same_test name f.0 q (sym (is_eq-slice_cmp name f.0) ∙ ap is_eq e))
    by_order Greater e more = greater_case (bytes_eq q f.0) (bytes_eq q name) refl refl (sym (is_eq-slice_cmp name f.0) ∙ ap is_eq e) more

-- no name that is less than all
absent : (q : List ℕ) (fs : List Named) → AllByRecursion (λ y. slice_cmp nat_cmp q y ≡ Less) (keys_of fs) → value_named q fs ≡ None
absent q [] all = refl
absent q (f ∷ fs) all = by_test (bytes_eq q f.0) (sym (is_eq-slice_cmp q f.0) ∙ ap is_eq all.0) (absent q fs all.1)
  where
    by_test : (b : Bool) → b ≡ false → value_named q fs ≡ None → cond b (Some f.1) (value_named q fs) ≡ None
    by_test true e more = absurd (true≢false e)
    by_test false e more = more

pub removed_found : (fs : List Named) (name q : List ℕ) → AreInOrder fs → value_named q (without_field name fs) ≡ cond (bytes_eq q name) None (value_named q fs)
unfolding IsStrictlySortedBy
removed_found [] name q sorted = by_test (bytes_eq q name)
  where
    by_test : (b : Bool) → value_named q [] ≡ cond b None (value_named q [])
    by_test true = refl
    by_test false = refl
removed_found (f ∷ fs) name q sorted = by_first (bytes_eq name f.0) refl (removed_found fs name q sorted.1)
  where
    here : (b d : Bool) → bytes_eq q f.0 ≡ b → b ≡ d → value_named q fs ≡ cond d None (cond b (Some f.1) (value_named q fs))
    here true true eb e = absent q fs (subst (λ (x : List ℕ). AllByRecursion (λ y. slice_cmp nat_cmp x y ≡ Less) (keys_of fs)) (sym ((bytes_eq-Decides q f.0).0 eb)) sorted.0)
    here true false eb e = absurd (true≢false e)
    here false true eb e = absurd (true≢false (sym e))
    here false false eb e = refl

    there : (b d : Bool) → bytes_eq q f.0 ≡ b → bytes_eq q name ≡ d → bytes_eq name f.0 ≡ false → value_named q (without_field name fs) ≡ cond d None (value_named q fs)
        → cond b (Some f.1) (value_named q (without_field name fs)) ≡ cond d None (cond b (Some f.1) (value_named q fs))
    there true true eb ed apart more = absurd (true≢false (sym (sym apart ∙ ap (λ (x : List ℕ). bytes_eq x f.0) (sym ((bytes_eq-Decides q name).0 ed)) ∙ eb)))
    there true false eb ed apart more = refl
    there false d eb ed apart more = more

    by_first : (b : Bool) → bytes_eq name f.0 ≡ b → value_named q (without_field name fs) ≡ cond (bytes_eq q name) None (value_named q fs)
        → value_named q (cond b fs (f ∷ without_field name fs)) ≡ cond (bytes_eq q name) None (value_named q (f ∷ fs))
    by_first true e more = here (bytes_eq q f.0) (bytes_eq q name) refl (same_test name f.0 q e)
    by_first false e more = there (bytes_eq q f.0) (bytes_eq q name) refl refl e more
