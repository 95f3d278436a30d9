-- Entries under numbers, by the bytes of their keys.
use Rattle.std.proofs.Common.{◌≡◌, ℕ, ◌+◌, ◌<◌, ◌⊎◌, inl, inr, List, [], ◌∷◌, get_or, drop, refl, sym, ap, ◌∙◌, subst, Option, Some, None, Bool, true, false, cond, nat_eq, bytes_eq, arith}
use Rattle.std.specs.Prelude.{Result, Ok, Err, OnOk, OnErr}
use Rattle.std.specs.List.{list_any, IsDistinct, AllByRecursion}
use Rattle.std.specs.Cmp.Lexicographic.{bytes_decides}
use Rattle.std.specs.Map.{lookup, keys_of, values_of, remove_entry}
use Rattle.std.proofs.lemmas.Bool.Decides.{Decides-eqb, Decides-like, same_from_decides}
use Rattle.std.proofs.lemmas.Option.{none-some, same_Some}
use Rattle.indexmap.specs.IndexMap.{insert_entry}
use Rattle.literature.specs.Keys.{with_key, put, without_key, AreDistinct}
use Rattle.literature.specs.Numbered.{AreNumbered, AreInjective, AreBelow, AreUnder as Meet}
use Rattle.literature_entries.specs.Views.{key_view}
use Rattle.literature_entries.specs.declared.entry.Entry.{Entry}

abbrev pub Numbered : Type 0
Numbered = List (ℕ × Entry)

-- each entry is under the number of its key
abbrev AreUnder : (List ℕ → Option ℕ) → Numbered → Type 0
AreUnder f es = AllByRecursion (λ (e : ℕ × Entry). f (key_view e.1) ≡ Some e.0) es

one_by_one : (f : List ℕ → Option ℕ) (es : Numbered) → Meet f es → AreUnder f es
one_by_one f [] h = tt
one_by_one f (e ∷ es) h = (ap (λ xs. get_or xs 0 None) h, one_by_one f es (ap (drop 1) h))

together : (f : List ℕ → Option ℕ) (es : Numbered) → AreUnder f es → Meet f es
together f [] h = refl
together f (e ∷ es) h = λ i. h.0 i ∷ together f es h.1 i

-- a value that is put instead of the first, or after it
put_step : (b : Bool) (e : ℕ × Entry) (entry : Entry) (es more : Numbered) (viewed : List Entry) → values_of more ≡ viewed
    → values_of (cond b ((e.0, entry) ∷ es) (e ∷ more)) ≡ cond b (entry ∷ values_of es) (e.1 ∷ viewed)
put_step true e entry es more viewed i = refl
put_step false e entry es more viewed i = ap (λ xs. e.1 ∷ xs) i

-- what was taken out, or what stays before others
removed_step : (b : Bool) (e : ℕ × Entry) (es more : Numbered) (viewed : List Entry) → values_of more ≡ viewed
    → values_of (cond b es (e ∷ more)) ≡ cond b (values_of es) (e.1 ∷ viewed)
removed_step true e es more viewed i = refl
removed_step false e es more viewed i = ap (λ xs. e.1 ∷ xs) i

module _ (f : List ℕ → Option ℕ) where
  -- a key that has no number is that of no entry
  other : (key : List ℕ) (e : ℕ × Entry) → f key ≡ None → f (key_view e.1) ≡ Some e.0 → (b : Bool) → bytes_eq key (key_view e.1) ≡ b → b ≡ false
  other key e none is true same = absurd (none-some e.0 (sym none ∙ ap f ((bytes_decides key (key_view e.1)).0 same) ∙ is))
  other key e none is false same = refl

  not_found : (key : List ℕ) (es : Numbered) → f key ≡ None → AreUnder f es → with_key key_view key (values_of es) ≡ None
  not_found key [] none h = refl
  not_found key (e ∷ es) none h =
      ap (λ b. cond b (Some e.1) (with_key key_view key (values_of es))) (other key e none h.0 (bytes_eq key (key_view e.1)) refl) ∙ not_found key es none h.1

  not_taken : (key : List ℕ) (es : Numbered) → f key ≡ None → AreUnder f es → without_key key_view key (values_of es) ≡ values_of es
  not_taken key [] none h = refl
  not_taken key (e ∷ es) none h =
      ap (λ b. cond b (values_of es) (e.1 ∷ without_key key_view key (values_of es))) (other key e none h.0 (bytes_eq key (key_view e.1)) refl) ∙ ap (λ xs. e.1 ∷ xs) (not_taken key es none h.1)

  module _ (apart : AreInjective f) where
    -- numbers are equal where keys are
    alike : (key own : List ℕ) (n m : ℕ) → f key ≡ Some n → f own ≡ Some m → nat_eq n m ≡ bytes_eq key own
    alike key own n m has is =
        same_from_decides (nat_eq n m) (bytes_eq key own)
        (Decides-like (nat_eq n m) (λ (e : n ≡ m). (bytes_decides key own).0 (apart key own n has (is ∙ ap (λ k. Some k) (sym e)))) (λ (e : key ≡ own). same_Some n m (sym has ∙ ap f e ∙ is)) (Decides-eqb n m))
        (bytes_decides key own)

    -- an entry is found by the number of its key
    found : (key : List ℕ) (n : ℕ) (es : Numbered) → f key ≡ Some n → AreUnder f es → lookup (nat_eq n) es ≡ with_key key_view key (values_of es)
    found key n [] has h = refl
    found key n (e ∷ es) has h = λ i. cond (alike key (key_view e.1) n e.0 has h.0 i) (Some e.1) (found key n es has h.1 i)

    -- an entry is put where one of its key stands
    put_where : (entry : Entry) (n : ℕ) (es : Numbered) → f (key_view entry) ≡ Some n → AreUnder f es → values_of (insert_entry nat_eq es n entry) ≡ put key_view (values_of es) entry
    put_where entry n [] has h = refl
    put_where entry n (e ∷ es) has h =
        put_step (nat_eq n e.0) e entry es (insert_entry nat_eq es n entry) (put key_view (values_of es) entry) (put_where entry n es has h.1)
        ∙ ap (λ b. cond b (entry ∷ values_of es) (e.1 ∷ put key_view (values_of es) entry)) (alike (key_view entry) (key_view e.1) n e.0 has h.0)

    put_under_step : (entry : Entry) (n : ℕ) (e : ℕ × Entry) (es more : Numbered) → f (key_view entry) ≡ Some n → f (key_view e.1) ≡ Some e.0 → AreUnder f es → AreUnder f more
        → (b : Bool) → nat_eq n e.0 ≡ b → AreUnder f (cond b ((e.0, entry) ∷ es) (e ∷ more))
    put_under_step entry n e es more has is rest all true same = (has ∙ ap (λ k. Some k) ((Decides-eqb n e.0).0 same), rest)
    put_under_step entry n e es more has is rest all false same = (is, all)

    -- after it was put, each entry is still under the number of its key
    put_under : (entry : Entry) (n : ℕ) (es : Numbered) → f (key_view entry) ≡ Some n → AreUnder f es → AreUnder f (insert_entry nat_eq es n entry)
    put_under entry n [] has h = (has, tt)
    put_under entry n (e ∷ es) has h =
        put_under_step entry n e es (insert_entry nat_eq es n entry) has h.0 h.1 (put_under entry n es has h.1) (nat_eq n e.0) refl

    -- an entry is taken out by the number of its key
    taken_where : (key : List ℕ) (n : ℕ) (es : Numbered) → f key ≡ Some n → AreUnder f es → values_of (remove_entry (nat_eq n) es) ≡ without_key key_view key (values_of es)
    taken_where key n [] has h = refl
    taken_where key n (e ∷ es) has h =
        removed_step (nat_eq n e.0) e es (remove_entry (nat_eq n) es) (without_key key_view key (values_of es)) (taken_where key n es has h.1)
        ∙ ap (λ b. cond b (values_of es) (e.1 ∷ without_key key_view key (values_of es))) (alike key (key_view e.1) n e.0 has h.0)

    -- no key of other numbers is the same
    other_keys : (e : ℕ × Entry) (es : Numbered) → f (key_view e.1) ≡ Some e.0 → AreUnder f es → AllByRecursion (λ m. nat_eq e.0 m ≡ false) (keys_of es)
        → list_any (λ y. bytes_eq (key_view e.1) (key_view y)) (values_of es) ≡ false
    other_keys e [] is h d = refl
    other_keys e (x ∷ es) is h d =
        let here : bytes_eq (key_view e.1) (key_view x.1) ≡ false = sym (alike (key_view e.1) (key_view x.1) e.0 x.0 is h.0) ∙ d.0 in
        rw here (other_keys e es is h.1 d.1)

    distinct : (es : Numbered) → AreUnder f es → IsDistinct nat_eq (keys_of es) → AreDistinct key_view (values_of es)
    unfolding IsDistinct
    distinct [] h d = refl
    distinct (e ∷ es) h d =
        let others = other_keys e es h.0 h.1 d.0 in
        rw others (distinct es h.1 d.1)

-- no two entries have one key
pub keys_distinct : (f : List ℕ → Option ℕ) (next : ℕ) (es : Numbered) → AreNumbered f next es → IsDistinct nat_eq (keys_of es) → AreDistinct key_view (values_of es)
keys_distinct f next es h d = distinct f h.1 es (one_by_one f es h.0) d

-- after an entry was put under the number of its key
pub numbered_put : (f : List ℕ → Option ℕ) (next n : ℕ) (entry : Entry) (es : Numbered) → f (key_view entry) ≡ Some n → AreNumbered f next es → AreNumbered f next (insert_entry nat_eq es n entry)
numbered_put f next n entry es has h = (together f (insert_entry nat_eq es n entry) (put_under f h.1 entry n es has (one_by_one f es h.0)), h.1, h.2)

-- what holds of a success or of an error holds
pub ok_or_err : {X Y P Q : Type 0} (r : Result X Y) → OnOk r P → OnErr r Q → P ⊎ Q
ok_or_err (Ok x) made kept = inl made
ok_or_err (Err y) made kept = inr kept

-- after an entry was to be put under the number of its key
pub numbered_after : (f : List ℕ → Option ℕ) (next n : ℕ) (entry : Entry) (es after : Numbered) → f (key_view entry) ≡ Some n
    → (after ≡ insert_entry nat_eq es n entry) ⊎ (after ≡ es) → AreNumbered f next es → AreNumbered f next after
numbered_after f next n entry es after has (inl put) h = subst (AreNumbered f next) (sym put) (numbered_put f next n entry es has h)
numbered_after f next n entry es after has (inr kept) h = subst (AreNumbered f next) (sym kept) h

-- where a key takes the next number
module _ (f g : List ℕ → Option ℕ) (key : List ℕ) (next : ℕ) (given : (q : List ℕ) → g q ≡ cond (bytes_eq key q) (Some next) (f q)) where
  -- a number that is given is the next one of the key, or was given before
  was : (q : List ℕ) (n : ℕ) → g q ≡ Some n → (b : Bool) → bytes_eq key q ≡ b → ((key ≡ q) × (n ≡ next)) ⊎ (f q ≡ Some n)
  was q n is true same = inl ((bytes_decides key q).0 same, same_Some n next (sym is ∙ given q ∙ ap (λ b. cond b (Some next) (f q)) same))
  was q n is false same = inr (sym (ap (λ b. cond b (Some next) (f q)) same) ∙ sym (given q) ∙ is)

  given_under : (es : Numbered) → f key ≡ None → AreUnder f es → AreUnder g es
  given_under [] none h = tt
  given_under (e ∷ es) none h =
      (given (key_view e.1) ∙ ap (λ b. cond b (Some next) (f (key_view e.1))) (other f key e none h.0 (bytes_eq key (key_view e.1)) refl) ∙ h.0, given_under es none h.1)

  given_apart : AreInjective f → AreBelow f next → AreInjective g
  given_apart apart below p q n is also = both (was p n is (bytes_eq key p) refl) (was q n also (bytes_eq key q) refl)
    where
      both : ((key ≡ p) × (n ≡ next)) ⊎ (f p ≡ Some n) → ((key ≡ q) × (n ≡ next)) ⊎ (f q ≡ Some n) → bytes_eq p q ≡ true
      both (inl a) (inl b) = (bytes_decides p q).1 (sym a.0 ∙ b.0)
      both (inl a) (inr b) = let low : n < next = below q n b in let e : n ≡ next = a.1 in absurd (omega (arith, low, e))
      both (inr a) (inl b) = let low : n < next = below p n a in let e : n ≡ next = b.1 in absurd (omega (arith, low, e))
      both (inr a) (inr b) = apart p q n a b

  given_below : AreBelow f next → AreBelow g (next + 1)
  given_below below q n is = by (was q n is (bytes_eq key q) refl)
    where
      by : ((key ≡ q) × (n ≡ next)) ⊎ (f q ≡ Some n) → n < next + 1
      by (inl a) = let e : n ≡ next = a.1 in omega (arith, e)
      by (inr b) = let low : n < next = below q n b in omega (arith, low)

  pub numbered_given : (es : Numbered) → f key ≡ None → AreNumbered f next es → AreNumbered g (next + 1) es
  numbered_given es none h = (together g es (given_under es none (one_by_one f es h.0)), given_apart h.1 h.2, given_below h.2)

-- the others are under their numbers after one was taken out
fewer_by : (f : List ℕ → Option ℕ) (b : Bool) (e : ℕ × Entry) (es less : Numbered) → AreUnder f (e ∷ es) → AreUnder f less → AreUnder f (cond b es (e ∷ less))
fewer_by f true e es less h l = h.1
fewer_by f false e es less h l = (h.0, l)

fewer : (f : List ℕ → Option ℕ) (test : ℕ → Bool) (es : Numbered) → AreUnder f es → AreUnder f (remove_entry test es)
fewer f test [] h = tt
fewer f test (e ∷ es) h = fewer_by f (test e.0) e es (remove_entry test es) h (fewer f test es h.1)

-- where a key and its entry are taken out
module _ (f g : List ℕ → Option ℕ) (key : List ℕ) (taken : (q : List ℕ) → g q ≡ cond (bytes_eq key q) None (f q)) where
  -- what still has a number has the one that it had
  had : (q : List ℕ) (n : ℕ) → g q ≡ Some n → (b : Bool) → bytes_eq key q ≡ b → f q ≡ Some n
  had q n is true same = absurd (none-some n (sym (ap (λ b. cond b None (f q)) same) ∙ sym (taken q) ∙ is))
  had q n is false same = sym (ap (λ b. cond b None (f q)) same) ∙ sym (taken q) ∙ is

  module _ (n : ℕ) (has : f key ≡ Some n) (apart : AreInjective f) where
    kept : (e : ℕ × Entry) → f (key_view e.1) ≡ Some e.0 → nat_eq n e.0 ≡ false → g (key_view e.1) ≡ Some e.0
    kept e is differs =
        taken (key_view e.1) ∙ ap (λ b. cond b None (f (key_view e.1))) (sym (alike f apart key (key_view e.1) n e.0 has is) ∙ differs) ∙ is

    still_by : (e : ℕ × Entry) (es : Numbered) → f (key_view e.1) ≡ Some e.0 → (b : Bool) → nat_eq n e.0 ≡ b → cond b (Some e.1) (lookup (nat_eq n) es) ≡ None
        → (lookup (nat_eq n) es ≡ None → AreUnder g es) → AreUnder g (e ∷ es)
    still_by e es is true same gone more = absurd (none-some e.1 (sym gone))
    still_by e es is false differs gone more = (kept e is differs, more gone)

    -- where none of the number is left
    still_under : (es : Numbered) → AreUnder f es → lookup (nat_eq n) es ≡ None → AreUnder g es
    still_under [] h gone = tt
    still_under (e ∷ es) h gone = still_by e es h.0 (nat_eq n e.0) refl gone (still_under es h.1)

  pub numbered_taken : (n next : ℕ) (es : Numbered) → f key ≡ Some n → lookup (nat_eq n) (remove_entry (nat_eq n) es) ≡ None → AreNumbered f next es
      → AreNumbered g next (remove_entry (nat_eq n) es)
  numbered_taken n next es has gone h = (
    together g (remove_entry (nat_eq n) es) (still_under n has h.1 (remove_entry (nat_eq n) es) (fewer f (nat_eq n) es (one_by_one f es h.0)) gone),
    (λ p q m is also. h.1 p q m (had p m is (bytes_eq key p) refl) (had q m also (bytes_eq key q) refl)),
    (λ q m is. h.2 q m (had q m is (bytes_eq key q) refl)),
  )

module _ (f : List ℕ → Option ℕ) (next : ℕ) (es : Numbered) (h : AreNumbered f next es) where
  -- an entry is found by the number of its key
  pub entry_found : (key : List ℕ) (n : ℕ) → f key ≡ Some n → lookup (nat_eq n) es ≡ with_key key_view key (values_of es)
  entry_found key n has = found f h.1 key n es has (one_by_one f es h.0)

  -- a key without a number is that of no entry
  pub none_found : (key : List ℕ) → f key ≡ None → with_key key_view key (values_of es) ≡ None
  none_found key none = not_found f key es none (one_by_one f es h.0)

  -- an entry is put where one of its key stands
  pub entry_put : (entry : Entry) (n : ℕ) → f (key_view entry) ≡ Some n → values_of (insert_entry nat_eq es n entry) ≡ put key_view (values_of es) entry
  entry_put entry n has = put_where f h.1 entry n es has (one_by_one f es h.0)

  -- an entry is taken out by the number of its key
  pub entry_taken : (key : List ℕ) (n : ℕ) → f key ≡ Some n → values_of (remove_entry (nat_eq n) es) ≡ without_key key_view key (values_of es)
  entry_taken key n has = taken_where f h.1 key n es has (one_by_one f es h.0)

  pub none_taken : (key : List ℕ) → f key ≡ None → without_key key_view key (values_of es) ≡ values_of es
  none_taken key none = not_taken f key es none (one_by_one f es h.0)
