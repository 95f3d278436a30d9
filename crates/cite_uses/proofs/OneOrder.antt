-- Where the entries that names mean stand in one order in two files, the keys of the works that they are do so in the libraries.
use Rattle.std.proofs.Common.{◌≡◌, ◌≤◌, ◌||◌, ◌&&◌, ℕ, Bool, true, false, true≢false, cond, List, [], ◌∷◌, drop, filter, map, slice_get, option_map, Option, Some, None, Ok, refl, sym, ap, subst, ◌∙◌, arith}
use Rattle.std.specs.Prelude.{Contains, option_and_then}
use Rattle.std.specs.List.{AllByRecursion, cons_option}
use Rattle.std.specs.Str.{bytes_eq}
use Rattle.std.proofs.lemmas.Bool.{and_parts}
use Rattle.std.proofs.lemmas.List.Elements.{Contains-append_right}
use Rattle.std.proofs.lemmas.Slice.Eq.{bytes_eq-Decides}
use Rattle.biblatex.specs.Entries.{Source}
use Rattle.biblatex.specs.TypeNames.{written_type}
use Rattle.literature_entries.specs.EntriesData.{EntryData}
use Rattle.literature.specs.Keys.{with_key}
use Rattle.literature.specs.Trees.{Tree}
use Rattle.interop.specs.Library.{is_xdata, key_of}
use Rattle.rendering_nodes.specs.Named.{Named}
use Rattle.cite_requests.specs.Cited.{is_among}
use Rattle.cite_requests.specs.Stages.{AreWorksOf}
use Rattle.cite_requests.specs.Works.{Works, meaning, work_of}
use Rattle.cite_requests.proofs.EntriesIndices.{AreListedWorks, found_key}
use Rattle.cite_requests.proofs.KeyLists.{key_is, turned}
use Rattle.cite_requests.proofs.WorksListed.{found_cited}
use Rattle.cite_uses.specs.Alike.{AreInOneOrder, MeanAlikeWorks, both_indices, indices_of}
use Rattle.cite_uses.proofs.AlikeEach.{meant_work}
use Rattle.cite_uses.proofs.KeysRise.{Rises, StandsBefore, kept_rises, key_at, library_rises, one_index}

same_itself : (k : List ℕ) → bytes_eq k k ≡ true
same_itself k = (bytes_eq-Decides k k).1 refl

or_later : (b c : Bool) → c ≡ true → (b || c) ≡ true
or_later true c is = refl
or_later false c is = is

-- what holds of each key holds of one that is among them
all_among : (P : List ℕ → Type 0) (ks : List (List ℕ)) → AllByRecursion P ks → (k : List ℕ) → is_among ks k ≡ true → P k
all_among P [] h k is = absurd (true≢false (sym is))
all_among P (l ∷ ks) h k is = by (bytes_eq k l) refl is (all_among P ks h.1 k)
  where
    by : (b : Bool) → bytes_eq k l ≡ b → (b || is_among ks k) ≡ true → (is_among ks k ≡ true → P k) → P k
    by true same g more = subst P (sym (key_is k l same)) h.0
    by false differ g more = more g

and_false : (b : Bool) → (b && false) ≡ false
and_false true = refl
and_false false = refl

-- which keys are left of a list
among_filter : (p : List ℕ → Bool) (ks : List (List ℕ)) (k : List ℕ) → is_among (filter p ks) k ≡ (p k && is_among ks k)
among_filter p [] k = sym (and_false (p k))
among_filter p (l ∷ ks) k = by (bytes_eq k l) refl (p l) refl (among_filter p ks k)
  where
    by : (b : Bool) → bytes_eq k l ≡ b → (c : Bool) → p l ≡ c → is_among (filter p ks) k ≡ (p k && is_among ks k) → is_among (cond c (l ∷ filter p ks) (filter p ks)) k ≡ (p k && (b || is_among ks k))
    by true same true passes more =
        (λ i. same i || is_among (filter p ks) k) ∙ sym (ap (λ (d : Bool). d && true) (ap p (key_is k l same) ∙ passes))
    by true same false passes more =
        let fails : p k ≡ false = ap p (key_is k l same) ∙ passes in
        more ∙ (λ i. fails i && is_among ks k) ∙ sym (λ i. fails i && true)
    by false differ true passes more = (λ i. differ i || is_among (filter p ks) k) ∙ more
    by false differ false passes more = more

-- a key under which there is a work
with_among : (k : List ℕ) (w : EntryData) (ws : List EntryData) → with_key key_of k ws ≡ Some w → is_among (map key_of ws) k ≡ true
with_among k w [] is = absurd cc
with_among k w (v ∷ ws) is = by (bytes_eq k (key_of v)) is (with_among k w ws)
  where
    by : (b : Bool) → cond b (Some v) (with_key key_of k ws) ≡ Some w → (with_key key_of k ws ≡ Some w → is_among (map key_of ws) k ≡ true) → (b || is_among (map key_of ws) k) ≡ true
    by true g more = refl
    by false g more = more g

-- two lists that rise, of the same keys, of which none stands before another in one list and after it in the other
module _ (R S : List ℕ → List ℕ → Type 0) (own : (k : List ℕ) → R k k → ⊥) (own_too : (k : List ℕ) → S k k → ⊥) where
  one_list : (ks ls : List (List ℕ)) → Rises R ks → Rises S ls → ((k l : List ℕ) → is_among ks k ≡ true → is_among ks l ≡ true → R k l → S l k → ⊥)
      → ((k : List ℕ) → is_among ks k ≡ is_among ls k) → ks ≡ ls
  one_list [] [] rises rises_too agree same = refl
  one_list [] (l ∷ ls) rises rises_too agree same = absurd (true≢false (sym (same l ∙ ap (λ (b : Bool). b || is_among ls l) (same_itself l))))
  one_list (k ∷ ks) [] rises rises_too agree same = absurd (true≢false (sym (ap (λ (b : Bool). b || is_among ks k) (same_itself k)) ∙ same k))
  one_list (k ∷ ks) (l ∷ ls) rises rises_too agree same =
      λ i. first i ∷ one_list ks ls rises.1 rises_too.1 (λ m n there there_too. agree m n (or_later (bytes_eq m k) (is_among ks m) there) (or_later (bytes_eq n k) (is_among ks n) there_too)) others i
    where
      here : is_among (k ∷ ks) k ≡ true
      here = ap (λ (b : Bool). b || is_among ks k) (same_itself k)

      there : is_among (k ∷ ks) l ≡ true
      there = same l ∙ ap (λ (b : Bool). b || is_among ls l) (same_itself l)

      first_by : (b : Bool) → bytes_eq l k ≡ b → k ≡ l
      first_by true is = sym (key_is l k is)
      first_by false differ =
          let after : is_among ks l ≡ true = sym (ap (λ (b : Bool). b || is_among ks l) differ) ∙ there in
          let after_too : is_among ls k ≡ true = sym (ap (λ (b : Bool). b || is_among ls k) (turned l k differ)) ∙ (sym (same k) ∙ here) in
          absurd (agree k l here there (all_among (R k) ks rises.0 l after) (all_among (S l) ls rises_too.0 k after_too))

      first : k ≡ l
      first = first_by (bytes_eq l k) refl

      not_again : (b : Bool) → (b ≡ true → ⊥) → b ≡ false
      not_again true never = absurd (never refl)
      not_again false never = refl

      others_by : (m : List ℕ) (b : Bool) → bytes_eq m k ≡ b → (b || is_among ks m) ≡ (b || is_among ls m) → is_among ks m ≡ is_among ls m
      others_by m false differ e = e
      others_by m true is e =
          let one : m ≡ k = key_is m k is in
          not_again (is_among ks m) (λ again. own k (subst (R k) one (all_among (R k) ks rises.0 m again)))
          ∙ sym (not_again (is_among ls m) (λ again. own_too l (subst (S l) (one ∙ first) (all_among (S l) ls rises_too.0 m again))))

      others : (m : List ℕ) → is_among ks m ≡ is_among ls m
      others m = others_by m (bytes_eq m k) refl (same m ∙ ap (λ (n : List ℕ). bytes_eq m n || is_among ls m) (sym first))

-- the index and the key of the entry that a name means, by its work
module _ (works : Works) (x : EntryData) where
  entry_key : (e : Source) (b : Bool) → cond b None (with_key key_of e.key works.library) ≡ Some x → e.key ≡ key_of x
  entry_key e true is = absurd cc
  entry_key e false is = found_key works.library e.key x is

  key_there : (i : ℕ) (o : Option Source) → slice_get works.file.entries i ≡ o → option_and_then (work_of works.library) o ≡ Some x → key_at works.file.entries i ≡ Some (key_of x)
  key_there i None is means = absurd cc
  key_there i (Some e) is means = ap (option_map (λ (d : Source). d.key)) is ∙ ap (λ (k : List ℕ). Some k) (entry_key e (is_xdata (written_type e.entry_type)) means)

  abbrev MeantAt : List ℕ → Type 0
  MeantAt name = (i : ℕ) × (works.file.index name ≡ Some i) × (key_at works.file.entries i ≡ Some (key_of x))

  meant_by : (name : List ℕ) (o : Option ℕ) → works.file.index name ≡ o → option_and_then (work_of works.library) (option_and_then (slice_get works.file.entries) o) ≡ Some x → MeantAt name
  meant_by name None is means = absurd cc
  meant_by name (Some i) is means = (i, is, key_there i (slice_get works.file.entries i) refl means)

  meant_at : (name : List ℕ) → meaning name works ≡ Some x → MeantAt name
  meant_at name means = meant_by name (works.file.index name) refl means

module _ (n : Named) (selectors : List Tree) (v w : Works) where
  -- the indices of a key in both files, among those of names
  record IsInBoth (ps : List (ℕ × ℕ)) (k : List ℕ) : Type 0 where
    i : ℕ
    j : ℕ
    has : Contains ps (i, j)
    first : key_at v.file.entries i ≡ Some k
    second : key_at w.file.entries j ≡ Some k

  in_both : (names : List (List ℕ)) (xs : List EntryData) → MeanAlikeWorks n selectors v w names → map (λ m. meaning m v) names ≡ map (λ x. Some x) xs
      → (k : List ℕ) → is_among (map key_of xs) k ≡ true → IsInBoth (indices_of v.file w.file names) k
  in_both [] [] h means k is = absurd (true≢false (sym is))
  in_both [] (x ∷ xs) h means k is = absurd cc
  in_both (m ∷ names) [] h means k is = absurd (true≢false (sym is))
  in_both (m ∷ names) (x ∷ xs) h means k is = by (bytes_eq k (key_of x)) refl is (in_both names xs h.1 (ap (drop 1) means) k)
    where
      one : MeantAt v h.0.0 m
      one = meant_at v h.0.0 m h.0.1

      two : MeantAt w h.0.2.0 m
      two = meant_at w h.0.2.0 m h.0.2.1

      rest : List (ℕ × ℕ)
      rest = indices_of v.file w.file names

      here : indices_of v.file w.file (m ∷ names) ≡ (one.0, two.0) ∷ rest
      here = λ i. cons_option (both_indices (one.1 i) (two.1 i)) rest

      same : h.0.0 ≡ x
      same = meant_work n selectors v w m names v h.0.0 x xs h.0.1 means

      by : (b : Bool) → bytes_eq k (key_of x) ≡ b → (b || is_among (map key_of xs) k) ≡ true → (is_among (map key_of xs) k ≡ true → IsInBoth rest k) → IsInBoth (indices_of v.file w.file (m ∷ names)) k
      by true is_key g more =
          let key : key_of h.0.0 ≡ k = ap key_of same ∙ sym (key_is k (key_of x) is_key) in
          record {
            i = one.0;
            j = two.0;
            has = subst (λ (ps : List (ℕ × ℕ)). Contains ps (one.0, two.0)) (sym here) (0, omega arith, refl);
            first = one.2 ∙ ap (λ (l : List ℕ). Some l) key;
            second = two.2 ∙ ap (λ (l : List ℕ). Some l) (sym h.0.2.2.key ∙ key);
          }
      by false differ g more =
          let p = more g in
          record {
            i = p.i;
            j = p.j;
            has = subst (λ (ps : List (ℕ × ℕ)). Contains ps (p.i, p.j)) (sym here) (Contains-append_right ((one.0, two.0) ∷ []) rest (p.i, p.j) p.has);
            first = p.first;
            second = p.second;
          }

  module _ (bib other : List ℕ) (of_bib : AreWorksOf bib (Ok v)) (of_other : AreWorksOf other (Ok w)) (names : List (List ℕ)) (xs ys : List EntryData) (h : MeanAlikeWorks n selectors v w names)
      (means : map (λ m. meaning m v) names ≡ map (λ x. Some x) xs) (keys : map key_of xs ≡ map key_of ys) (listed : AreListedWorks v.library xs) (listed_too : AreListedWorks w.library ys)
      (order : AreInOneOrder (indices_of v.file w.file names)) where
    abbrev ks : List (List ℕ)
    ks = map key_of xs

    abbrev Before : List ℕ → List ℕ → Type 0
    Before = StandsBefore v.file.entries

    abbrev BeforeToo : List ℕ → List ℕ → Type 0
    BeforeToo = StandsBefore w.file.entries

    not_itself : (k : List ℕ) → Before k k → ⊥
    not_itself k b = let same = one_index bib v of_bib b.0 b.1 k b.3 b.4 in let low = b.2 in omega (arith, same, low)

    not_itself_too : (k : List ℕ) → BeforeToo k k → ⊥
    not_itself_too k b = let same = one_index other w of_other b.0 b.1 k b.3 b.4 in let low = b.2 in omega (arith, same, low)

    not_turned : (k l : List ℕ) → is_among ks k ≡ true → is_among ks l ≡ true → Before k l → BeforeToo l k → ⊥
    not_turned k l is is_too b c =
        let p = in_both names xs h means k is in
        let q = in_both names xs h means l is_too in
        let a0 = one_index bib v of_bib b.0 p.i k b.3 p.first in
        let a1 = one_index bib v of_bib b.1 q.i l b.4 q.first in
        let c0 = one_index other w of_other c.0 q.j l c.3 q.second in
        let c1 = one_index other w of_other c.1 p.j k c.4 p.second in
        let low = b.2 in
        let low_too = c.2 in
        let up : p.j ≤ q.j = order (p.i, p.j) (q.i, q.j) p.has q.has (omega (arith, a0, a1, low)) in
        omega (arith, up, c0, c1, low_too)

    abbrev all_first : List (List ℕ)
    all_first = map key_of v.library

    abbrev all_second : List (List ℕ)
    all_second = map key_of w.library

    in_first : (k : List ℕ) → is_among ks k ≡ true → is_among all_first k ≡ true
    in_first k is = let found = found_cited v.library xs k listed is in with_among k found.0 v.library found.2

    in_second : (k : List ℕ) → is_among ks k ≡ true → is_among all_second k ≡ true
    in_second k is = let found = found_cited w.library ys k listed_too (ap (λ ls. is_among ls k) (sym keys) ∙ is) in with_among k found.0 w.library found.2

    same_by : (k : List ℕ) (b : Bool) → is_among ks k ≡ b → (b && is_among all_first k) ≡ (b && is_among all_second k)
    same_by k true is = in_first k is ∙ sym (in_second k is)
    same_by k false is = refl

    -- the cited works stand in one order in the libraries
    pub one_order : filter (is_among ks) all_first ≡ filter (is_among ks) all_second
    one_order =
        one_list Before BeforeToo not_itself not_itself_too (filter (is_among ks) all_first) (filter (is_among ks) all_second)
        (kept_rises (is_among ks) Before all_first (library_rises bib v of_bib)) (kept_rises (is_among ks) BeforeToo all_second (library_rises other w of_other))
        (λ k l there there_too. not_turned k l (and_parts (is_among ks k) (is_among all_first k) (sym (among_filter (is_among ks) all_first k) ∙ there)).0 (and_parts (is_among ks l) (is_among all_first l) (sym (among_filter (is_among ks) all_first l) ∙ there_too)).0)
        (λ k. among_filter (is_among ks) all_first k ∙ (same_by k (is_among ks k) refl ∙ sym (among_filter (is_among ks) all_second k)))
