-- Fields that are put beside their entry.
use Rattle.std.proofs.Common.{◌≡◌, ℕ, ◌++◌, ◌||◌, List, [], ◌∷◌, Bool, true, false, cond, Option, Some, None, Ordering, Less, Greater, string_bytes, bytes_eq, nat_cmp, codes, true≢false, refl, sym, ap, subst, ◌∙◌}
use Rattle.std.specs.Prelude.{option_map, is_some}
use Rattle.std.specs.Cmp.Lexicographic.{slice_cmp, nat_list_cmp_total}
use Rattle.std.specs.Ordering.{match_ordering, ordering_reverse}
use Rattle.std.specs.List.{AllByRecursion}
use Rattle.std.specs.List.Sorted.{IsStrictlySortedBy}
use Rattle.std.specs.Map.{keys_of}
use Rattle.std.proofs.lemmas.Option.{same_Some}
use Rattle.std.proofs.lemmas.Slice.Eq.{bytes_eq-Decides}
use Rattle.biblatex_fields.specs.Fields.{Named, value_named, with_field, without_field, AreInOrder}
use Rattle.biblatex_fields.specs.Value.{Value}
use Rattle.biblatex_fields.proofs.FieldsLookUps.{removed_found}
use Rattle.biblatex_entries.specs.Names.{trimmed, listed}
use Rattle.biblatex_entries.specs.Entries.{Source, text_in, field_text}
use Rattle.biblatex_suppliers.specs.Written.{value_beside, with_shared, entry_with, is_said, said, IsSetAside}
use Rattle.biblatex_suppliers.specs.declared.shared.Shared.{Shared}

-- a name is less than all of these
abbrev IsBelow : List ℕ → List (List ℕ) → Type 0
IsBelow name names = AllByRecursion (λ y. slice_cmp nat_cmp name y ≡ Less) names

-- a name that is less than all is less than one that is found
below_found : (m n : List ℕ) (v : Value) (fs : List Named) → IsBelow m (keys_of fs) → value_named n fs ≡ Some v → slice_cmp nat_cmp m n ≡ Less
below_found m n v [] below found = absurd (true≢false (sym (ap is_some found)))
below_found m n v (f ∷ fs) below found = by (bytes_eq n f.0) refl found (below_found m n v fs below.1)
  where
    by : (b : Bool) → bytes_eq n f.0 ≡ b → cond b (Some f.1) (value_named n fs) ≡ Some v → (value_named n fs ≡ Some v → slice_cmp nat_cmp m n ≡ Less) → slice_cmp nat_cmp m n ≡ Less
    by true here there more = subst (λ (x : List ℕ). slice_cmp nat_cmp m x ≡ Less) (sym ((bytes_eq-Decides n f.0).0 here)) below.0
    by false here there more = more there

-- a field whose name is less than all goes first
put_first : (n : List ℕ) (v : Value) (fs : List Named) → IsBelow n (keys_of fs) → with_field fs n v ≡ (n, v) ∷ fs
put_first n v [] below = refl
put_first n v (f ∷ fs) below = ap (λ (o : Ordering). match_ordering o ((n, v) ∷ f ∷ fs) ((f.0, v) ∷ fs) (f ∷ with_field fs n v)) below.0

-- a field that was taken out goes back to where it was
returned : (fs : List Named) (n : List ℕ) (v : Value) → AreInOrder fs → value_named n fs ≡ Some v → with_field (without_field n fs) n v ≡ fs
unfolding IsStrictlySortedBy
returned [] n v sorted found = absurd (true≢false (sym (ap is_some found)))
returned (f ∷ fs) n v sorted found = by (bytes_eq n f.0) refl found (returned fs n v sorted.1)
  where
    by : (b : Bool) → bytes_eq n f.0 ≡ b → cond b (Some f.1) (value_named n fs) ≡ Some v → (value_named n fs ≡ Some v → with_field (without_field n fs) n v ≡ fs)
        → with_field (cond b fs (f ∷ without_field n fs)) n v ≡ f ∷ fs
    by true here there more =
        let name : n ≡ f.0 = (bytes_eq-Decides n f.0).0 here in
        let value : v ≡ f.1 = sym (same_Some f.1 v there) in
        put_first n v fs (subst (λ (x : List ℕ). IsBelow x (keys_of fs)) (sym name) sorted.0) ∙ (λ i. (name i, value i) ∷ fs)
    by false here there more =
        let rest = without_field n fs in
        let later : slice_cmp nat_cmp n f.0 ≡ Greater = nat_list_cmp_total.antisymm n f.0 ∙ ap ordering_reverse (below_found f.0 n v fs sorted.0 there) in
        ap (λ (o : Ordering). match_ordering o ((n, v) ∷ f ∷ rest) ((f.0, v) ∷ rest) (f ∷ with_field rest n v)) later ∙ ap (λ (gs : List Named). f ∷ gs) (more there)

-- the last of the fields beside an entry is put in first
shared_last : (fs : List Named) (ss : List Shared) (s : Shared) → with_shared fs (ss ++ s ∷ []) ≡ with_shared (with_field fs (string_bytes s.name) (value_beside s)) ss
shared_last fs [] s = refl
shared_last fs (x ∷ ss) s = ap (λ (gs : List Named). with_field gs (string_bytes x.name) (value_beside x)) (shared_last fs ss s)

neither : (x y : Bool) → (x || y) ≡ false → (x ≡ false) × (y ≡ false)
neither true y is = absurd (true≢false is)
neither false y is = (refl, is)

turned : (a b : List ℕ) → bytes_eq a b ≡ false → bytes_eq b a ≡ false
turned a b apart = by (bytes_eq b a) refl
  where
    by : (c : Bool) → bytes_eq b a ≡ c → c ≡ false
    by true e = absurd (true≢false (sym ((bytes_eq-Decides a b).1 (sym ((bytes_eq-Decides b a).0 e))) ∙ apart))
    by false e = refl

-- the text of another field stays
text_stays : (q n : List ℕ) (fs : List Named) → AreInOrder fs → bytes_eq q n ≡ false → field_text q (without_field n fs) ≡ field_text q fs
text_stays q n fs sorted apart = ap (λ (o : Option Value). text_in (option_map (λ v. v.text) o)) (removed_found fs n q sorted ∙ ap (λ (b : Bool). cond b None (value_named q fs)) apart)

-- without a field that says nothing of names an entry says of them what it said
said_stays : (e : Source) (n : List ℕ) → AreInOrder e.fields → is_said n ≡ false → said (record { key = e.key; entry_type = e.entry_type; fields = without_field n e.fields }) ≡ said e
said_stays e n sorted apart =
    let fs = e.fields in
    let first = neither (bytes_eq n (codes "ids")) (bytes_eq n (codes "crossref") || bytes_eq n (codes "xdata")) apart in
    let second = neither (bytes_eq n (codes "crossref")) (bytes_eq n (codes "xdata")) first.1 in
    let ids = text_stays (codes "ids") n fs sorted (turned n (codes "ids") first.0) in
    let parent = text_stays (codes "crossref") n fs sorted (turned n (codes "crossref") second.0) in
    let others = text_stays (codes "xdata") n fs sorted (turned n (codes "xdata") second.1) in
    λ i. (e.key, (e.key ∷ listed (ids i), trimmed (parent i) ++ listed (others i)))

-- one field more is put beside an entry
pub put_beside : (whole old new : Source) (ss ts : List Shared) (s : Shared) (name : List ℕ) → AreInOrder old.fields → name ≡ string_bytes s.name
    → new ≡ record { key = old.key; entry_type = old.entry_type; fields = without_field name old.fields } → ts ≡ ss ++ s ∷ [] → is_said (string_bytes s.name) ≡ false → value_named (string_bytes s.name) old.fields ≡ Some (value_beside s)
    → IsSetAside whole old ss → IsSetAside whole new ts
put_beside whole old new ss ts s name sorted is_name is_new is_ts apart found aside =
    let n = string_bytes s.name in
    let is = is_new ∙ (λ i. record { key = old.key; entry_type = old.entry_type; fields = without_field (is_name i) old.fields }) in
    let back = shared_last (without_field n old.fields) ss s ∙ ap (λ (fs : List Named). with_shared fs ss) (returned old.fields n (value_beside s) sorted found) in
    record {
      whole = (λ i. entry_with (is i) (is_ts i)) ∙ ((λ i. record { key = old.key; entry_type = old.entry_type; fields = back i }) ∙ aside.whole);
      same = ap said is ∙ (said_stays old n sorted apart ∙ aside.same);
    }
