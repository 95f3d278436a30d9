-- Fields in the order of their names, of which those are set that are changed.
use Rattle.std.proofs.Common.{◌≡◌, ◌<◌, ◌≤◌, ◌+◌, ◌&&◌, ◌⊎◌, inl, inr, not, ℕ, zero, suc, Bool, true, false, cond, List, [], ◌∷◌, ◌++◌, map, take, drop, length, get_or, slice_get, slice_set, arith, Some, None, Ordering, Less, Equal, Greater, bytes_eq, nat_cmp, refl, sym, ap, subst, ◌∙◌}
use Rattle.std.specs.Prelude.{if◌then◌else◌}
use Rattle.std.specs.Cmp.Lexicographic.{slice_cmp}
use Rattle.std.specs.List.{AllByRecursion, list_any}
use Rattle.std.specs.List.Sorted.{IsStrictlySortedBy}
use Rattle.std.specs.Map.{keys_of}
use Rattle.std.specs.Ordering.{match_ordering, ordering_reverse}
use Rattle.std.proofs.lemmas.Cmp.{nat_list_cmp_total, tied_itself}
use Rattle.std.proofs.lemmas.List.{append-nil, drop_all, take_all}
use Rattle.std.proofs.lemmas.List.Edits.{map_over_more}
use Rattle.std.proofs.lemmas.Option.{get_or_from_slice_get, slice_get_cases}
use Rattle.std.proofs.lemmas.Slice.Eq.{bytes_eq-Decides}
use Rattle.biblatex_content.specs.Styled.{Member}
use Rattle.biblatex_content.specs.Verbatim.{is_verbatim_name}
use Rattle.biblatex_fields.specs.Fields.{Named, AreInOrder, AreJoined, IsJoined, value_named, with_field}
use Rattle.biblatex_entries.specs.Entries.{Source}
use Rattle.biblatex_writing.specs.Settled.{are_distinct, have_distinct_keys}
use Rattle.biblatex_typography.specs.Typography.{typographic_entry, typographic_field, typographic_value}
use Rattle.biblatex_typography.specs.Changes.{changed_at, changed_field, changed_fields, changed_there, is_changed, is_marked, with_fields}
use Rattle.biblatex_typography.proofs.Pairs.{unmarked_stays}

-- a field that is not changed is as it is printed
stays : (f : Named) → is_changed f ≡ false → typographic_field f ≡ f
stays f none = by (is_verbatim_name f.0) none
  where
    by : (b : Bool) → (not b && list_any is_marked f.1.text) ≡ false → (if b then f else (f.0, typographic_value f.1)) ≡ f
    by true none = refl
    by false none = ap (λ (ms : List Member). (f.0, record { text = ms; spans = f.1.spans; is_joined = f.1.is_joined })) (unmarked_stays f.1.text none)

-- and each has its name
pub name_kept : (f : Named) → (typographic_field f).0 ≡ f.0
name_kept f = by (is_verbatim_name f.0)
  where
    by : (b : Bool) → (if b then f else (f.0, typographic_value f.1)).0 ≡ f.0
    by true = refl
    by false = refl

-- each of these comes after a name
abbrev AreAfter : List ℕ → List Named → Type 0
AreAfter name fs = AllByRecursion (λ f. slice_cmp nat_cmp f.0 name ≡ Greater) fs

-- then none of them is set before the first
skip_first : (f : Named) (fs changes : List Named) → AreAfter f.0 changes → with_fields (f ∷ fs) changes ≡ f ∷ with_fields fs changes
skip_first f fs [] all = refl
skip_first f fs (g ∷ gs) all =
    ap (λ (o : Ordering). with_fields (match_ordering o ((g.0, g.1) ∷ f ∷ fs) ((f.0, g.1) ∷ fs) (f ∷ with_field fs g.0 g.1)) gs) all.0
    ∙ skip_first f (with_field fs g.0 g.1) gs all.1

-- the first one is set
set_first : (f g : Named) (fs : List Named) → g.0 ≡ f.0 → with_field (f ∷ fs) g.0 g.1 ≡ g ∷ fs
set_first f g fs same =
    let tied : slice_cmp nat_cmp g.0 f.0 ≡ Equal = ap (λ (n : List ℕ). slice_cmp nat_cmp n f.0) same ∙ tied_itself nat_list_cmp_total f.0 in
    ap (λ (o : Ordering). match_ordering o ((g.0, g.1) ∷ f ∷ fs) ((f.0, g.1) ∷ fs) (f ∷ with_field fs g.0 g.1)) tied
    ∙ ap (λ (n : List ℕ). (n, g.1) ∷ fs) (sym same)

greater : (a b : List ℕ) → slice_cmp nat_cmp a b ≡ Less → slice_cmp nat_cmp b a ≡ Greater
greater a b less = nat_list_cmp_total.antisymm b a ∙ ap ordering_reverse less

changes_after : (name : List ℕ) (fs : List Named) → AllByRecursion (λ y. slice_cmp nat_cmp name y ≡ Less) (keys_of fs) → AreAfter name (changed_fields fs)
changes_after name [] less = tt
changes_after name (f ∷ fs) less = by (is_changed f) (changes_after name fs less.1)
  where
    first : slice_cmp nat_cmp (typographic_field f).0 name ≡ Greater
    first = ap (λ (n : List ℕ). slice_cmp nat_cmp n name) (name_kept f) ∙ greater name f.0 less.0

    by : (b : Bool) → AreAfter name (changed_fields fs) → AreAfter name ((if b then typographic_field f ∷ [] else []) ++ changed_fields fs)
    by true more = (first, more)
    by false more = more

-- the fields as they are printed
pub set_changed : (fs : List Named) → AreInOrder fs → with_fields fs (changed_fields fs) ≡ map typographic_field fs
unfolding IsStrictlySortedBy
set_changed [] sorted = refl
set_changed (f ∷ fs) sorted = by (is_changed f) refl (set_changed fs sorted.1)
  where
    new : Named
    new = typographic_field f

    later : AreAfter f.0 (changed_fields fs)
    later = changes_after f.0 fs sorted.0

    by : (b : Bool) → is_changed f ≡ b → with_fields fs (changed_fields fs) ≡ map typographic_field fs
        → with_fields (f ∷ fs) ((if b then new ∷ [] else []) ++ changed_fields fs) ≡ new ∷ map typographic_field fs
    by true changes rest =
        ap (λ (gs : List Named). with_fields gs (changed_fields fs)) (set_first f new fs (name_kept f))
        ∙ (skip_first new fs (changed_fields fs) (subst (λ (n : List ℕ). AreAfter n (changed_fields fs)) (sym (name_kept f)) later)
        ∙ ap (λ (gs : List Named). new ∷ gs) rest)
    by false none rest =
        skip_first f fs (changed_fields fs) later
        ∙ (ap (λ (gs : List Named). f ∷ gs) rest ∙ ap (λ (g : Named). g ∷ map typographic_field fs) (sym (stays f none)))

-- each field of an entry is joined
abbrev pub AreAllJoined : List Named → Type 0
AreAllJoined fs = AllByRecursion (λ f. f.1.is_joined ≡ true) fs

other_names : (name : List ℕ) (fs : List Named) → AllByRecursion (λ y. slice_cmp nat_cmp name y ≡ Less) (keys_of fs) → value_named name fs ≡ None
other_names name [] less = refl
other_names name (f ∷ fs) less = by (bytes_eq name f.0) refl (other_names name fs less.1)
  where
    by : (b : Bool) → bytes_eq name f.0 ≡ b → value_named name fs ≡ None → cond b (Some f.1) (value_named name fs) ≡ None
    by true same rest = absurd (let e = sym (tied_itself nat_list_cmp_total name) ∙ (ap (slice_cmp nat_cmp name) ((bytes_eq-Decides name f.0).0 same) ∙ less.0) in cc)
    by false other rest = rest

rest_joined : (f : Named) (fs : List Named) → AllByRecursion (λ y. slice_cmp nat_cmp f.0 y ≡ Less) (keys_of fs) → AreJoined (f ∷ fs) → AreJoined fs
rest_joined f fs less joined name = by (bytes_eq name f.0) refl (joined name)
  where
    by : (b : Bool) → bytes_eq name f.0 ≡ b → IsJoined (cond b (Some f.1) (value_named name fs)) → IsJoined (value_named name fs)
    by true same is = subst IsJoined (sym (ap (λ (n : List ℕ). value_named n fs) ((bytes_eq-Decides name f.0).0 same) ∙ other_names f.0 fs less)) tt
    by false other is = is

pub each_joined : (fs : List Named) → AreInOrder fs → AreJoined fs → AreAllJoined fs
unfolding IsStrictlySortedBy
each_joined [] sorted joined = tt
each_joined (f ∷ fs) sorted joined = (
  subst (λ (b : Bool). IsJoined (cond b (Some f.1) (value_named f.0 fs))) ((bytes_eq-Decides f.0 f.0).1 refl) (joined f.0),
  each_joined fs sorted.1 (rest_joined f fs sorted.0 joined),
)

-- keys are kept
keys_kept : (es : List Source) → map (λ (e : Source). e.key) (map typographic_entry es) ≡ map (λ (e : Source). e.key) es
keys_kept [] = refl
keys_kept (e ∷ es) = ap (λ (keys : List (List ℕ)). e.key ∷ keys) (keys_kept es)

pub distinct_kept : (es : List Source) → have_distinct_keys es ≡ true → have_distinct_keys (map typographic_entry es) ≡ true
distinct_kept es distinct = ap are_distinct (keys_kept es) ∙ distinct

-- what is put of a field
pub nothing_put : (fs : List Named) (f : Named) → is_changed f ≡ false → fs ≡ fs ++ changed_field f
nothing_put fs f none = sym (append-nil fs) ∙ ap (λ (b : Bool). fs ++ (if b then typographic_field f ∷ [] else [])) (sym none)

ordinary : (f : Named) → is_changed f ≡ true → typographic_field f ≡ (f.0, typographic_value f.1)
ordinary f changes = by (is_verbatim_name f.0) changes
  where
    by : (b : Bool) → (not b && list_any is_marked f.1.text) ≡ true → (if b then f else (f.0, typographic_value f.1)) ≡ (f.0, typographic_value f.1)
    by true changes = absurd cc
    by false changes = refl

pub one_put : (fs : List Named) (f g : Named) → is_changed f ≡ true → g ≡ (f.0, typographic_value f.1) → fs ++ g ∷ [] ≡ fs ++ changed_field f
one_put fs f g changes is =
    ap (λ (h : Named). fs ++ h ∷ []) (is ∙ sym (ordinary f changes)) ∙ ap (λ (b : Bool). fs ++ (if b then typographic_field f ∷ [] else [])) (sym changes)

-- the entry at an index
pub one_changed : (i : ℕ) (es : List Source) (e n : Source) → Some e ≡ slice_get es i → n ≡ typographic_entry e → slice_set es i n ≡ changed_at i es
one_changed i es e n there is = ap (slice_set es i) is ∙ ap (changed_there i es) there

pub none_changed : (i : ℕ) (es : List Source) → None ≡ slice_get es i → es ≡ changed_at i es
none_changed i es there = ap (changed_there i es) there

-- one more entry, where those before it are changed
abbrev pub AreChanged : List Source → List Source → ℕ → Type 0
AreChanged old es i = es ≡ map typographic_entry (take i old) ++ drop i old

pub not_yet : (old es : List Source) (i : ℕ) → AreChanged old es i → slice_get es i ≡ slice_get old i
not_yet old es i h = ap (λ (ds : List Source). slice_get ds i) h ∙ there old i
  where
    there : (ds : List Source) (n : ℕ) → slice_get (map typographic_entry (take n ds) ++ drop n ds) n ≡ slice_get ds n
    there [] zero = refl
    there [] (suc n) = refl
    there (d ∷ ds) zero = refl
    there (d ∷ ds) (suc n) = there ds n

pub changed_on : (old es : List Source) (i : ℕ) → i < length old → AreChanged old es i → AreChanged old (changed_at i es) (i + 1)
changed_on old es i less h = by (slice_get_cases old i).1
  where
    by : ((e : Source) × (i < length old) × (slice_get old i ≡ Some e) × (get_or old i e ≡ e)) ⊎ ((length old ≤ i) × (slice_get old i ≡ None)) → AreChanged old (changed_at i es) (i + 1)
    by (inl (e, within, is, read)) =
        let there : slice_get es i ≡ Some e = not_yet old es i h ∙ is in
        ap (changed_there i es) there ∙ map_over_more typographic_entry old es i e less h (sym (get_or_from_slice_get es i e e there))
    by (inr (past, none)) = absurd (omega (arith, less, past))

-- all of them
pub finished : (old es : List Source) (i : ℕ) → length old ≤ i → AreChanged old es i → es ≡ map typographic_entry old
finished old es i past h =
    h ∙ ((λ k. map typographic_entry (take_all i old past k) ++ drop_all i old past k) ∙ append-nil (map typographic_entry old))
