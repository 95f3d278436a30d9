-- The keys of the library of a file stand in the order of the file.
use Rattle.std.proofs.Common.{◌≡◌, ◌+◌, ◌<◌, ℕ, zero, suc, Bool, true, false, true≢false, not, cond, List, [], ◌∷◌, filter, map, slice_get, option_map, Some, None, Option, Result, Ok, Err, refl, sym, ap, subst, ◌∙◌, arith}
use Rattle.std.specs.List.{AllByRecursion}
use Rattle.std.specs.Str.{bytes_eq}
use Rattle.std.proofs.lemmas.Option.{same_Some}
use Rattle.std.proofs.lemmas.Slice.Eq.{bytes_eq-Decides}
use Rattle.laws.specs.Results.{◌>>=◌}
use Rattle.laws.proofs.Results.{ok_is}
use Rattle.biblatex.specs.Listed.{Listed}
use Rattle.biblatex.specs.Entries.{Source}
use Rattle.biblatex.specs.TypeNames.{written_type}
use Rattle.biblatex_content.specs.Styled.{Member}
use Rattle.biblatex_laws.proofs.LoadedKeys.{AreApart}
use Rattle.literature_entries.specs.EntriesData.{EntryData}
use Rattle.literature_values.specs.declared.entry_type.EntryType.{EntryType}
use Rattle.literature.specs.Keys.{put}
use Rattle.interop_values.specs.Values.{Values, values}
use Rattle.interop.specs.Bridge as bridge
use Rattle.interop.specs.Bridge.{Fault, container_of, entry_in, unless_faulty}
use Rattle.interop.specs.Kinds.{row_of}
use Rattle.interop.specs.Library.{all_faults, all_works, is_xdata, key_of, library_of, put_after}
use Rattle.cite_requests.specs.Stages.{Refusal, AreWorksOf, IsRead, library_stage, works_from}
use Rattle.cite_requests.specs.Works.{Works}
use Rattle.cite_requests.proofs.KeyLists.{key_is}
use Rattle.cite_requests.proofs.KeysDistinct.{distinct_apart, read_distinct}

-- each key stands so to those after it
module _ (R : List ℕ → List ℕ → Type 0) where
  abbrev pub Rises : List (List ℕ) → Type 0
  Rises [] = Unit {0}
  Rises (k ∷ ks) = AllByRecursion (R k) ks × Rises ks

-- the same of some of the keys
module _ (q : List ℕ → Bool) where
  kept_all : (P : List ℕ → Type 0) (ks : List (List ℕ)) → AllByRecursion P ks → AllByRecursion P (filter q ks)
  kept_all P [] h = tt
  kept_all P (k ∷ ks) h = by (q k) (kept_all P ks h.1)
    where
      by : (b : Bool) → AllByRecursion P (filter q ks) → AllByRecursion P (cond b (k ∷ filter q ks) (filter q ks))
      by true more = (h.0, more)
      by false more = more

  pub kept_rises : (R : List ℕ → List ℕ → Type 0) (ks : List (List ℕ)) → Rises R ks → Rises R (filter q ks)
  kept_rises R [] h = tt
  kept_rises R (k ∷ ks) h = by (q k) (kept_rises R ks h.1)
    where
      by : (b : Bool) → Rises R (filter q ks) → Rises R (cond b (k ∷ filter q ks) (filter q ks))
      by true more = (kept_all (R k) ks h.0, more)
      by false more = more

-- one more work
module _ (u : EntryData) where
  put_all : (P : List ℕ → Type 0) (ws : List EntryData) → AllByRecursion P (map key_of ws) → P (key_of u) → AllByRecursion P (map key_of (put key_of ws u))
  put_all P [] h p = (p, tt)
  put_all P (v ∷ ws) h p = by (bytes_eq (key_of u) (key_of v)) (put_all P ws h.1 p)
    where
      by : (b : Bool) → AllByRecursion P (map key_of (put key_of ws u)) → AllByRecursion P (map key_of (cond b (u ∷ ws) (v ∷ put key_of ws u)))
      by true more = (p, h.1)
      by false more = (h.0, more)

  put_rises : (R : List ℕ → List ℕ → Type 0) (ws : List EntryData) → Rises R (map key_of ws) → AllByRecursion (λ k. R k (key_of u)) (map key_of ws) → Rises R (map key_of (put key_of ws u))
  put_rises R [] h p = (tt, tt)
  put_rises R (v ∷ ws) h p = by (bytes_eq (key_of u) (key_of v)) refl (put_rises R ws h.1 p.1)
    where
      by : (b : Bool) → bytes_eq (key_of u) (key_of v) ≡ b → Rises R (map key_of (put key_of ws u)) → Rises R (map key_of (cond b (u ∷ ws) (v ∷ put key_of ws u)))
      by true same more = (subst (λ (k : List ℕ). AllByRecursion (R k) (map key_of ws)) (sym (key_is (key_of u) (key_of v) same)) h.0, h.1)
      by false differ more = (put_all (R (key_of v)) ws h.0 p.0, more)

-- the key of the entry at an index
abbrev pub key_at : List Source → ℕ → Option (List ℕ)
key_at es i = option_map (λ e. e.key) (slice_get es i)

-- the key of an entry that stands before one of another key
abbrev pub StandsBefore : List Source → List ℕ → List ℕ → Type 0
StandsBefore es k l = (i j : ℕ) × (i < j) × (key_at es i ≡ Some k) × (key_at es j ≡ Some l)

-- the work of an entry has its key
abbrev work : Source → EntryData
work e = bridge.work_of e.key (written_type e.entry_type) (values e.fields)

keyed : (key : List ℕ) (v : Values) (t : EntryType) (o : Option (EntryType × List Member)) → key_of (entry_in key v t o) ≡ key
keyed key v t None = refl
keyed key v t (Some outer) = refl

work_keyed : (e : Source) → key_of (work e) ≡ e.key
work_keyed e =
    let row = row_of (written_type e.entry_type) in
    keyed e.key (values e.fields) row.entry_type (container_of row.container (values e.fields))

module _ (all : List Source) where
  -- the key of an entry before an index
  abbrev StoodBefore : ℕ → List ℕ → Type 0
  StoodBefore p k = (i : ℕ) × (i < p) × (key_at all i ≡ Some k)

  later : (p : ℕ) (ks : List (List ℕ)) → AllByRecursion (StoodBefore p) ks → AllByRecursion (StoodBefore (suc p)) ks
  later p [] h = tt
  later p (k ∷ ks) h = let low = h.0.1 in ((h.0.0, omega (arith, low), h.0.2), later p ks h.1)

  before_it : (p : ℕ) (l : List ℕ) → key_at all p ≡ Some l → (ks : List (List ℕ)) → AllByRecursion (StoodBefore p) ks → AllByRecursion (λ k. StandsBefore all k l) ks
  before_it p l is [] h = tt
  before_it p l is (k ∷ ks) h = ((h.0.0, p, h.0.1, h.0.2, is), before_it p l is ks h.1)

  after_rises : (es : List Source) (p : ℕ) (ws : List EntryData) → ((j : ℕ) → key_at all (j + p) ≡ key_at es j) → AllByRecursion (StoodBefore p) (map key_of ws)
      → Rises (StandsBefore all) (map key_of ws) → Rises (StandsBefore all) (map key_of (put_after ws (all_works es)))
  after_rises [] p ws here stood rises = rises
  after_rises (e ∷ es) p ws here stood rises = by (is_xdata (written_type e.entry_type)) (λ vs. after_rises es (suc p) vs next)
    where
      at : key_at all p ≡ Some (key_of (work e))
      at = let first : p ≡ 0 + p = omega arith in ap (key_at all) first ∙ here 0 ∙ ap (λ (k : List ℕ). Some k) (sym (work_keyed e))

      next : (j : ℕ) → key_at all (j + suc p) ≡ key_at es j
      next j = let on : j + suc p ≡ suc j + p = omega arith in ap (key_at all) on ∙ here (suc j)

      others : List Source
      others = filter (λ (d : Source). not (is_xdata (written_type d.entry_type))) es

      by : (b : Bool) → ((vs : List EntryData) → AllByRecursion (StoodBefore (suc p)) (map key_of vs) → Rises (StandsBefore all) (map key_of vs) → Rises (StandsBefore all) (map key_of (put_after vs (all_works es))))
          → Rises (StandsBefore all) (map key_of (put_after ws (map work (cond (not b) (e ∷ others) others))))
      by true more = more ws (later p (map key_of ws) stood) rises
      by false more =
          more (put key_of ws (work e)) (put_all (work e) (StoodBefore (suc p)) ws (later p (map key_of ws) stood) (p, omega arith, at))
          (put_rises (work e) (StandsBefore all) ws rises (before_it p (key_of (work e)) at (map key_of ws) stood))

-- what a bib text comes to: a file whose keys are distinct, with the library of its works
record IsOfFile (v : Works) : Type 0 where
  apart : AreApart v.file.entries
  library : v.library ≡ put_after [] (all_works v.file.entries)

library_is : (faults : List Fault) (found ws : List EntryData) → unless_faulty faults found ≡ Ok ws → found ≡ ws
library_is [] found ws e = ok_is {F = List Fault} found ws e
library_is (f ∷ fs) found ws e = absurd cc

stage_facts : (bib : List ℕ) (file : Listed) (v : Works) → IsRead bib (Ok file) → (found : Result (List EntryData) (List Fault)) → library_of file.entries ≡ found → Ok v ≡ works_from file found → IsOfFile v
stage_facts bib file v read (Ok ws) is e =
    subst IsOfFile (ok_is {F = Refusal} (record { file = file; library = ws }) v (sym e)) (record {
      apart = distinct_apart file.entries (read_distinct bib file read);
      library = sym (library_is (all_faults file.entries) (put_after [] (all_works file.entries)) ws is);
    })
stage_facts bib file v read (Err fs) is e = absurd cc

file_facts : (bib : List ℕ) (v : Works) (r : Result Listed Refusal) → IsRead bib r → Ok v ≡ (r >>= library_stage) → IsOfFile v
file_facts bib v (Ok file) read e = stage_facts bib file v read (library_of file.entries) refl e
file_facts bib v (Err r) read e = absurd cc

none_there : (k : List ℕ) (es : List Source) → AllByRecursion (λ d. bytes_eq k d.key ≡ false) es → (j : ℕ) → key_at es j ≡ Some k → ⊥
none_there k [] h j is = absurd cc
none_there k (d ∷ es) h zero is = true≢false (sym ((bytes_eq-Decides k d.key).1 (sym (same_Some d.key k is))) ∙ h.0)
none_there k (d ∷ es) h (suc j) is = none_there k es h.1 j is

index_of_key : (es : List Source) → AreApart es → (i j : ℕ) (k : List ℕ) → key_at es i ≡ Some k → key_at es j ≡ Some k → i ≡ j
index_of_key [] apart i j k a b = absurd cc
index_of_key (e ∷ es) apart zero zero k a b = refl
index_of_key (e ∷ es) apart zero (suc j) k a b = absurd (none_there e.key es apart.0 j (b ∙ sym a))
index_of_key (e ∷ es) apart (suc i) zero k a b = absurd (none_there e.key es apart.0 i (a ∙ sym b))
index_of_key (e ∷ es) apart (suc i) (suc j) k a b = ap suc (index_of_key es apart.1 i j k a b)

module _ (bib : List ℕ) (v : Works) (are : AreWorksOf bib (Ok v)) where
  facts : IsOfFile v
  facts = file_facts bib v are.0 are.1 are.2

  -- a key has one index
  pub one_index : (i j : ℕ) (k : List ℕ) → key_at v.file.entries i ≡ Some k → key_at v.file.entries j ≡ Some k → i ≡ j
  one_index = index_of_key v.file.entries facts.apart

  -- the keys of the library stand in the order of the file
  pub library_rises : Rises (StandsBefore v.file.entries) (map key_of v.library)
  library_rises =
      subst (λ (ws : List EntryData). Rises (StandsBefore v.file.entries) (map key_of ws)) (sym facts.library)
      (after_rises v.file.entries v.file.entries 0 [] (λ j. let on : j + 0 ≡ j = omega arith in ap (key_at v.file.entries) on) tt tt)
