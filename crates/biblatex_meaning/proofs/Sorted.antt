-- Fields in the order of their names, for a table of which the names that have a value are listed.
use Rattle.std.proofs.Common.{◌≡◌, ℕ, Bool, true, false, cond, ◌||◌, List, [], ◌∷◌, Option, Some, None, Ordering, Less, Equal, Greater, bytes_eq, nat_cmp, refl, sym, ap, ◌∙◌}
use Rattle.std.specs.Cmp.Lexicographic.{slice_cmp, nat_list_cmp_total}
use Rattle.std.specs.Ordering.{match_ordering, ordering_reverse}
use Rattle.std.specs.List.{AllByRecursion, list_any}
use Rattle.std.specs.List.Sorted.{IsStrictlySortedBy}
use Rattle.std.specs.Map.{keys_of}
use Rattle.std.proofs.lemmas.Slice.Eq.{bytes_eq-Decides}
use Rattle.biblatex_fields.specs.Fields.{Named, value_named, with_field, AreInOrder}
use Rattle.biblatex_fields.specs.Value.{Value}
use Rattle.biblatex_fields.proofs.FieldsLookUps.{put_found}
use Rattle.biblatex_inheritance.specs.Resolved.{Table}

-- a name is less than all of these
abbrev IsBelow : List ℕ → List (List ℕ) → Type 0
IsBelow name names = AllByRecursion (λ y. slice_cmp nat_cmp name y ≡ Less) names

below_more : (a b : List ℕ) (names : List (List ℕ)) → slice_cmp nat_cmp a b ≡ Less → IsBelow b names → IsBelow a names
below_more a b [] less all = tt
below_more a b (n ∷ names) less all = (nat_list_cmp_total.trans a b n less all.0, below_more a b names less all.1)

below_put : (m : List ℕ) (fs : List Named) (name : List ℕ) (v : Value) → slice_cmp nat_cmp m name ≡ Less → IsBelow m (keys_of fs) → IsBelow m (keys_of (with_field fs name v))
below_put m [] name v less all = (less, tt)
below_put m (f ∷ fs) name v less all = by (slice_cmp nat_cmp name f.0) (below_put m fs name v less all.1)
  where
    by : (o : Ordering) → IsBelow m (keys_of (with_field fs name v)) → IsBelow m (keys_of (match_ordering o ((name, v) ∷ f ∷ fs) ((f.0, v) ∷ fs) (f ∷ with_field fs name v)))
    by Less more = (less, all)
    by Equal more = all
    by Greater more = (all.0, more)

pub put_sorted : (fs : List Named) (name : List ℕ) (v : Value) → AreInOrder fs → AreInOrder (with_field fs name v)
unfolding IsStrictlySortedBy
put_sorted [] name v sorted = (tt, tt)
put_sorted (f ∷ fs) name v sorted = by (slice_cmp nat_cmp name f.0) refl (put_sorted fs name v sorted.1)
  where
    by : (o : Ordering) → slice_cmp nat_cmp name f.0 ≡ o → AreInOrder (with_field fs name v) → AreInOrder (match_ordering o ((name, v) ∷ f ∷ fs) ((f.0, v) ∷ fs) (f ∷ with_field fs name v))
    by Less e more = ((e, below_more name f.0 (keys_of fs) e sorted.0), sorted)
    by Equal e more = sorted
    by Greater e more = (below_put f.0 fs name v (nat_list_cmp_total.antisymm f.0 name ∙ ap ordering_reverse e) sorted.0, more)

nil_sorted : AreInOrder []
unfolding IsStrictlySortedBy
nil_sorted = tt

abbrev pub put : Option Value → List ℕ → List Named → List Named
put None name fs = fs
put (Some v) name fs = with_field fs name v

-- the values of a table under these names, in their order
abbrev pub ordered_fields : List (List ℕ) → Table → List Named
ordered_fields [] t = []
ordered_fields (n ∷ names) t = put (t n) n (ordered_fields names t)

pub fields_sorted : (names : List (List ℕ)) (t : Table) → AreInOrder (ordered_fields names t)
fields_sorted [] t = nil_sorted
fields_sorted (n ∷ names) t = by (t n) (fields_sorted names t)
  where
    by : (o : Option Value) → AreInOrder (ordered_fields names t) → AreInOrder (put o n (ordered_fields names t))
    by None sorted = sorted
    by (Some v) sorted = put_sorted (ordered_fields names t) n v sorted

-- what a look-up finds
abbrev found : Bool → Option Value → Option Value → Option Value
found b None other = other
found b (Some v) other = cond b (Some v) other

put_at : (o : Option Value) (n : List ℕ) (fs : List Named) (q : List ℕ) → value_named q (put o n fs) ≡ found (bytes_eq q n) o (value_named q fs)
put_at None n fs q = refl
put_at (Some v) n fs q = put_found fs n v q

chosen : (b c : Bool) (o t : Option Value) → (b ≡ true → t ≡ o) → found b o (cond c t None) ≡ cond (b || c) t None
chosen true true None t same = refl
chosen true false None t same = sym (same refl)
chosen true c (Some v) t same = sym (same refl)
chosen false c None t same = refl
chosen false c (Some v) t same = refl

fields_at : (names : List (List ℕ)) (t : Table) (q : List ℕ) → value_named q (ordered_fields names t) ≡ cond (list_any (bytes_eq q) names) (t q) None
fields_at [] t q = refl
fields_at (n ∷ names) t q =
    put_at (t n) n (ordered_fields names t) q ∙ (ap (found (bytes_eq q n) (t n)) (fields_at names t q)
    ∙ chosen (bytes_eq q n) (list_any (bytes_eq q) names) (t n) (t q) (λ e. ap t ((bytes_eq-Decides q n).0 e)))

pub fields_is : (names : List (List ℕ)) (t : Table) (q : List ℕ) → (list_any (bytes_eq q) names ≡ false → t q ≡ None) → value_named q (ordered_fields names t) ≡ t q
fields_is names t q outside = fields_at names t q ∙ by (list_any (bytes_eq q) names) refl
  where
    by : (b : Bool) → list_any (bytes_eq q) names ≡ b → cond b (t q) None ≡ t q
    by true e = refl
    by false e = sym (outside e)
