-- The library of those entries of a file whose keys pass a test has the works of the whole library under these keys.
use Rattle.std.proofs.Common.{◌≡◌, ℕ, Bool, true, false, not, List, [], ◌∷◌, ◌++◌, map, filter, Option, Some, None, cond, refl, sym, ap, ◌∙◌, true≢false}
use Rattle.std.specs.List.{flat_map}
use Rattle.std.specs.Str.{bytes_eq}
use Rattle.std.proofs.lemmas.Slice.Eq.{bytes_eq-Decides}
use Rattle.biblatex_content.specs.Styled.{Member}
use Rattle.biblatex_entries.specs.Entries.{Source}
use Rattle.biblatex_entries.specs.TypeNames.{written_type}
use Rattle.literature.specs.Keys.{put, with_key}
use Rattle.literature_entries.specs.EntriesData.{EntryData}
use Rattle.literature_values.specs.declared.entry_type.EntryType.{EntryType}
use Rattle.interop_values.specs.Values.{Values, values}
use Rattle.interop.specs.Bridge.{container_of, entry_in, faults_of, work_of}
use Rattle.interop.specs.Kinds.{row_of}
use Rattle.interop.specs.Library.{key_of, is_xdata, all_faults, all_works, put_after}

not_true : (b : Bool) → (b ≡ true → ⊥) → b ≡ false
not_true true h = absurd (h refl)
not_true false h = refl

same_test : (b c : Bool) (x y o : Option EntryData) → b ≡ c → cond b x o ≡ cond b x (cond c y o)
same_test true c x y o e = refl
same_test false c x y o e = ap (λ (d : Bool). cond d y o) e

swapped : (b c : Bool) (x y o : Option EntryData) → (b ≡ true → c ≡ true → ⊥) → cond b x (cond c y o) ≡ cond c y (cond b x o)
swapped true true x y o h = absurd (h refl refl)
swapped true false x y o h = refl
swapped false c x y o h = refl

put_by : (k : List ℕ) (v w : EntryData) (ws : List EntryData) → with_key key_of k (put key_of ws w) ≡ cond (bytes_eq k (key_of w)) (Some w) (with_key key_of k ws)
    → (b : Bool) → bytes_eq (key_of w) (key_of v) ≡ b
    → with_key key_of k (cond b (w ∷ ws) (v ∷ put key_of ws w)) ≡ cond (bytes_eq k (key_of w)) (Some w) (cond (bytes_eq k (key_of v)) (Some v) (with_key key_of k ws))
put_by k v w ws more true is =
    same_test (bytes_eq k (key_of w)) (bytes_eq k (key_of v)) (Some w) (Some v) (with_key key_of k ws) (ap (bytes_eq k) ((bytes_eq-Decides (key_of w) (key_of v)).0 is))
put_by k v w ws more false is =
    ap (λ (o : Option EntryData). cond (bytes_eq k (key_of v)) (Some v) o) more
    ∙ swapped (bytes_eq k (key_of v)) (bytes_eq k (key_of w)) (Some v) (Some w) (with_key key_of k ws)
    (λ other same. true≢false (sym ((bytes_eq-Decides (key_of w) (key_of v)).1 (sym ((bytes_eq-Decides k (key_of w)).0 same) ∙ (bytes_eq-Decides k (key_of v)).0 other)) ∙ is))

-- what is found under a key where one more work is put
put_found : (k : List ℕ) (ws : List EntryData) (w : EntryData) → with_key key_of k (put key_of ws w) ≡ cond (bytes_eq k (key_of w)) (Some w) (with_key key_of k ws)
put_found k [] w = refl
put_found k (v ∷ ws) w = put_by k v w ws (put_found k ws w) (bytes_eq (key_of w) (key_of v)) refl

-- the last of works that has the key, else what was found before
abbrev last_under : List ℕ → Option EntryData → List EntryData → Option EntryData
last_under k o [] = o
last_under k o (w ∷ ws) = last_under k (cond (bytes_eq k (key_of w)) (Some w) o) ws

after_found : (k : List ℕ) (more ws : List EntryData) → with_key key_of k (put_after ws more) ≡ last_under k (with_key key_of k ws) more
after_found k [] ws = refl
after_found k (w ∷ more) ws = after_found k more (put key_of ws w) ∙ ap (λ (o : Option EntryData). last_under k o more) (put_found k ws w)

module _ (k : List ℕ) (f : Source → EntryData) (n p : Source → Bool) where
  with_one : (e : Source) (es fs : List Source) (o : Option EntryData) → ((q : Option EntryData) → last_under k q (map f fs) ≡ last_under k q (map f es)) → (b : Bool)
      → last_under k o (map f (cond b (e ∷ fs) fs)) ≡ last_under k o (map f (cond b (e ∷ es) es))
  with_one e es fs o more true = more (cond (bytes_eq k (key_of (f e))) (Some (f e)) o)
  with_one e es fs o more false = more o

  without : (e : Source) (es fs : List Source) (o : Option EntryData) → last_under k o (map f fs) ≡ last_under k o (map f es) → bytes_eq k (key_of (f e)) ≡ false → (b : Bool)
      → last_under k o (map f fs) ≡ last_under k o (map f (cond b (e ∷ es) es))
  without e es fs o more is true = more ∙ ap (λ (b : Bool). last_under k (cond b (Some (f e)) o) (map f es)) (sym is)
  without e es fs o more is false = more

  by_test : (e : Source) (es : List Source) (o : Option EntryData) → ((q : Option EntryData) → last_under k q (map f (filter n (filter p es))) ≡ last_under k q (map f (filter n es)))
      → (p e ≡ false → bytes_eq k (key_of (f e)) ≡ false) → (b : Bool) → p e ≡ b
      → last_under k o (map f (filter n (cond b (e ∷ filter p es) (filter p es)))) ≡ last_under k o (map f (filter n (e ∷ es)))
  by_test e es o more other true is = with_one e (filter n es) (filter n (filter p es)) o more (n e)
  by_test e es o more other false is = without e (filter n es) (filter n (filter p es)) o (more o) (other is) (n e)

  -- entries that pass the test, where others have other keys
  found_among : ((e : Source) → p e ≡ false → bytes_eq k (key_of (f e)) ≡ false) → (es : List Source) (o : Option EntryData)
      → last_under k o (map f (filter n (filter p es))) ≡ last_under k o (map f (filter n es))
  found_among other [] o = refl
  found_among other (e ∷ es) o = by_test e es o (found_among other es) (other e) (p e) refl

entry_key : (key : List ℕ) (v : Values) (t : EntryType) (o : Option (EntryType × List Member)) → key_of (entry_in key v t o) ≡ key
entry_key key v t None = refl
entry_key key v t (Some outer) = refl

-- the work of an entry
abbrev work : Source → EntryData
work e = work_of e.key (written_type e.entry_type) (values e.fields)

work_key : (e : Source) → key_of (work e) ≡ e.key
work_key e =
    let row = row_of (written_type e.entry_type) in
    entry_key e.key (values e.fields) row.entry_type (container_of row.container (values e.fields))

other_key : (p : List ℕ → Bool) (k : List ℕ) → p k ≡ true → (e : Source) → p e.key ≡ false → bytes_eq k (key_of (work e)) ≡ false
other_key p k passes e fails =
    not_true (bytes_eq k (key_of (work e))) (λ same. true≢false (sym passes ∙ ap p ((bytes_eq-Decides k (key_of (work e))).0 same ∙ work_key e) ∙ fails))

-- what the library of entries whose keys pass the test has under a key that passes
pub found_under : (p : List ℕ → Bool) (k : List ℕ) → p k ≡ true → (es : List Source)
    → with_key key_of k (put_after [] (all_works (filter (λ e. p e.key) es))) ≡ with_key key_of k (put_after [] (all_works es))
found_under p k passes es =
    after_found k (all_works (filter (λ e. p e.key) es)) []
    ∙ found_among k work (λ e. not (is_xdata (written_type e.entry_type))) (λ e. p e.key) (other_key p k passes) es None
    ∙ sym (after_found k (all_works es) [])

none_each : {X : Type 0} (xs ys : List X) → xs ++ ys ≡ [] → (xs ≡ []) × (ys ≡ [])
none_each [] ys none = (refl, none)
none_each (x ∷ xs) ys none = absurd cc

module _ {X : Type 0} (g : Source → List X) (n p : Source → Bool) where
  none_after : (e : Source) (es : List Source) (b : Bool) → flat_map g (cond b (e ∷ es) es) ≡ [] → flat_map g es ≡ []
  none_after e es true none = (none_each (g e) (flat_map g es) none).1
  none_after e es false none = none

  none_with : (e : Source) (es fs : List Source) (b : Bool) → flat_map g (cond b (e ∷ es) es) ≡ [] → flat_map g fs ≡ [] → flat_map g (cond b (e ∷ fs) fs) ≡ []
  none_with e es fs true none more = λ i. (none_each (g e) (flat_map g es) none).0 i ++ more i
  none_with e es fs false none more = more

  none_by : (e : Source) (es : List Source) → flat_map g (filter n (e ∷ es)) ≡ [] → flat_map g (filter n (filter p es)) ≡ [] → (b : Bool)
      → flat_map g (filter n (cond b (e ∷ filter p es) (filter p es))) ≡ []
  none_by e es none more true = none_with e (filter n es) (filter n (filter p es)) (n e) none more
  none_by e es none more false = more

  none_among : (es : List Source) → flat_map g (filter n es) ≡ [] → flat_map g (filter n (filter p es)) ≡ []
  none_among [] none = refl
  none_among (e ∷ es) none = none_by e es none (none_among es (none_after e (filter n es) (n e) none)) (p e)

-- where no date of a file is faulty none of some of its entries is
pub no_fault_among : (p : Source → Bool) (es : List Source) → all_faults es ≡ [] → all_faults (filter p es) ≡ []
no_fault_among p es none = none_among (λ e. faults_of e.key (values e.fields)) (λ e. not (is_xdata (written_type e.entry_type))) p es none
