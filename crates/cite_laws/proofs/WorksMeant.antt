-- The work that a name means is made of the entry that it means, and of no other.
use Rattle.std.proofs.Common.{◌≡◌, ℕ, zero, suc, Bool, true, false, not, cond, List, [], ◌∷◌, map, filter, slice_get, Option, Some, None, Result, Ok, Err, refl, sym, ap, subst, ◌∙◌}
use Rattle.std.specs.Prelude.{option_and_then}
use Rattle.std.specs.List.{AllByRecursion}
use Rattle.std.specs.Map.{lookup}
use Rattle.std.specs.Option.{option_or}
use Rattle.std.specs.Str.{bytes_eq}
use Rattle.std.proofs.lemmas.Option.{same_Some}
use Rattle.std.proofs.lemmas.Slice.Eq.{bytes_eq-Decides}
use Rattle.std.proofs.Math.Path.{fun_ext}
use Rattle.laws.specs.Results.{◌>>=◌}
use Rattle.laws.proofs.Results.{ok_is}
use Rattle.biblatex_content.specs.Styled.{Member}
use Rattle.biblatex.specs.Listed.{Listed, entry_named}
use Rattle.biblatex.specs.Fields.{text_named}
use Rattle.biblatex.specs.Entries.{Source}
use Rattle.biblatex.specs.TypeNames.{written_type}
use Rattle.biblatex_laws.specs.Reached.{SaysTheSame, SayTheSame}
use Rattle.biblatex_laws.proofs.LoadedKeys.{AreApart}
use Rattle.biblatex_writing.specs.FieldNames.{is_never_written, other_names}
use Rattle.interop_values.specs.Values.{Values, filled, values}
use Rattle.literature_values.specs.declared.entry_type.EntryType.{EntryType}
use Rattle.literature_entries.specs.EntriesData.{EntryData}
use Rattle.literature.specs.Keys.{put, with_key}
use Rattle.interop.specs.Bridge.{Fault, container_of, entry_in, unless_faulty}
use Rattle.interop.specs.Bridge as bridge
use Rattle.interop.specs.Kinds.{row_of}
use Rattle.interop.specs.Library.{all_faults, all_works, is_xdata, key_of, library_of, put_after}
use Rattle.cite_requests.specs.Stages.{Refusal, AreWorksOf, library_stage, works_from}
use Rattle.cite_requests.specs.Works.{Works, meaning, work_of}
use Rattle.cite_requests.proofs.KeyLists.{key_is}

same_itself : (k : List ℕ) → bytes_eq k k ≡ true
same_itself k = (bytes_eq-Decides k k).1 refl

-- the work that was put last is found under its key, and others under theirs
put_gives : (w : EntryData) (ws : List EntryData) → with_key key_of (key_of w) (put key_of ws w) ≡ Some w
put_gives w [] = ap (λ (b : Bool). cond b (Some w) None) (same_itself (key_of w))
put_gives w (v ∷ ws) = by (put_gives w ws) (bytes_eq (key_of w) (key_of v)) refl
  where
    by : with_key key_of (key_of w) (put key_of ws w) ≡ Some w → (b : Bool) → bytes_eq (key_of w) (key_of v) ≡ b → with_key key_of (key_of w) (cond b (w ∷ ws) (v ∷ put key_of ws w)) ≡ Some w
    by more true is = ap (λ (b : Bool). cond b (Some w) (with_key key_of (key_of w) ws)) (same_itself (key_of w))
    by more false is = ap (λ (b : Bool). cond b (Some v) (with_key key_of (key_of w) (put key_of ws w))) is ∙ more

put_keeps : (k : List ℕ) (w : EntryData) → bytes_eq k (key_of w) ≡ false → (ws : List EntryData) → with_key key_of k (put key_of ws w) ≡ with_key key_of k ws
put_keeps k w differ [] = ap (λ (b : Bool). cond b (Some w) None) differ
put_keeps k w differ (v ∷ ws) = by (put_keeps k w differ ws) (bytes_eq (key_of w) (key_of v)) refl
  where
    by : with_key key_of k (put key_of ws w) ≡ with_key key_of k ws → (b : Bool) → bytes_eq (key_of w) (key_of v) ≡ b
        → with_key key_of k (cond b (w ∷ ws) (v ∷ put key_of ws w)) ≡ cond (bytes_eq k (key_of v)) (Some v) (with_key key_of k ws)
    by more true is =
        ap (λ (b : Bool). cond b (Some w) (with_key key_of k ws)) differ
        ∙ ap (λ (b : Bool). cond b (Some v) (with_key key_of k ws)) (sym (ap (bytes_eq k) (sym (key_is (key_of w) (key_of v) is)) ∙ differ))
    by more false is = ap (λ (o : Option EntryData). cond (bytes_eq k (key_of v)) (Some v) o) more

-- the work of an entry, by its key, and whether it is one
abbrev pub work : Source → EntryData
work e = bridge.work_of e.key (written_type e.entry_type) (values e.fields)

abbrev pub is_work : Source → Bool
is_work e = not (is_xdata (written_type e.entry_type))

entry_key : (key : List ℕ) (v : Values) (t : EntryType) (o : Option (EntryType × List Member)) → key_of (entry_in key v t o) ≡ key
entry_key key v t None = refl
entry_key key v t (Some outer) = refl

pub work_key : (e : Source) → key_of (work e) ≡ e.key
work_key e =
    let row = row_of (written_type e.entry_type) in
    entry_key e.key (values e.fields) row.entry_type (container_of row.container (values e.fields))

-- entries of other keys change nothing under a key
pub others_keep : (k : List ℕ) (es : List Source) (ws : List EntryData) → AllByRecursion (λ d. bytes_eq k d.key ≡ false) es → with_key key_of k (put_after ws (all_works es)) ≡ with_key key_of k ws
others_keep k [] ws h = refl
others_keep k (e ∷ es) ws h = by (λ vs. others_keep k es vs h.1) (is_work e)
  where
    by : ((vs : List EntryData) → with_key key_of k (put_after vs (all_works es)) ≡ with_key key_of k vs) → (b : Bool)
        → with_key key_of k (put_after ws (map work (cond b (e ∷ filter is_work es) (filter is_work es)))) ≡ with_key key_of k ws
    by more true = more (put key_of ws (work e)) ∙ put_keeps k (work e) (ap (bytes_eq k) (work_key e) ∙ h.0) ws
    by more false = more ws

-- what the library has under the key of an entry of the file
under_key : (es : List Source) (ws : List EntryData) → AreApart es → (i : ℕ) (e : Source) → slice_get es i ≡ Some e → is_work e ≡ true → with_key key_of e.key (put_after ws (all_works es)) ≡ Some (work e)
under_key [] ws apart i e is works = absurd cc
under_key (d ∷ es) ws apart zero e is works =
    let same : d ≡ e = same_Some d e is in
    ap (λ (b : Bool). with_key key_of e.key (put_after ws (map work (cond b (d ∷ filter is_work es) (filter is_work es))))) (ap is_work same ∙ works)
    ∙ others_keep e.key es (put key_of ws (work d)) (subst (λ (c : Source). AllByRecursion (λ b. bytes_eq c.key b.key ≡ false) es) same apart.0)
    ∙ ap (λ (c : Source). with_key key_of e.key (put key_of ws (work c))) same
    ∙ ap (λ (k : List ℕ). with_key key_of k (put key_of ws (work e))) (sym (work_key e))
    ∙ put_gives (work e) ws
under_key (d ∷ es) ws apart (suc i) e is works = by (λ vs. under_key es vs apart.1 i e is works) (is_work d)
  where
    by : ((vs : List EntryData) → with_key key_of e.key (put_after vs (all_works es)) ≡ Some (work e)) → (b : Bool)
        → with_key key_of e.key (put_after ws (map work (cond b (d ∷ filter is_work es) (filter is_work es)))) ≡ Some (work e)
    by more true = more (put key_of ws (work d))
    by more false = more ws

-- an entry as a work, if it is one
abbrev as_work : Source → Option EntryData
as_work e = cond (is_xdata (written_type e.entry_type)) None (Some (work e))

-- the library of works of a file
library_is : (faults : List Fault) (found ws : List EntryData) → unless_faulty faults found ≡ Ok ws → ws ≡ found
library_is [] found ws e = sym (ok_is {F = List Fault} found ws e)
library_is (f ∷ fs) found ws e = absurd cc

stage_is : (file : Listed) (found : Result (List EntryData) (List Fault)) (works : Works) → ((ws : List EntryData) → found ≡ Ok ws → ws ≡ put_after [] (all_works file.entries))
    → Ok works ≡ works_from file found → works.library ≡ put_after [] (all_works works.file.entries)
stage_is file (Ok ws) works h e =
    subst (λ (v : Works). v.library ≡ put_after [] (all_works v.file.entries)) (ok_is {F = Refusal} (record { file = file; library = ws }) works (sym e)) (h ws refl)
stage_is file (Err fs) works h e = absurd cc

read_is : (read : Result Listed Refusal) (works : Works) → Ok works ≡ (read >>= library_stage) → works.library ≡ put_after [] (all_works works.file.entries)
read_is (Ok file) works e = stage_is file (library_of file.entries) works (λ ws is. library_is (all_faults file.entries) (put_after [] (all_works file.entries)) ws is) e
read_is (Err r) works e = absurd cc

-- what a name means, where the keys of the entries are apart
module _ (bib : List ℕ) (works : Works) (are : AreWorksOf bib (Ok works)) (apart : AreApart works.file.entries) where
  pub works_are : works.library ≡ put_after [] (all_works works.file.entries)
  works_are = read_is are.0 works are.2

  found : (i : ℕ) (e : Source) → slice_get works.file.entries i ≡ Some e → work_of works.library e ≡ as_work e
  found i e is = ap (λ (ws : List EntryData). cond (is_xdata (written_type e.entry_type)) None (with_key key_of e.key ws)) works_are ∙ by (is_xdata (written_type e.entry_type)) refl
    where
      by : (b : Bool) → is_xdata (written_type e.entry_type) ≡ b → cond b None (with_key key_of e.key (put_after [] (all_works works.file.entries))) ≡ cond b None (Some (work e))
      by true none = refl
      by false none = under_key works.file.entries [] apart i e is (ap not none)

  pub meaning_is : (name : List ℕ) → meaning name works ≡ option_and_then as_work (entry_named name works.file)
  meaning_is name = by_index (works.file.index name)
    where
      by_entry : (i : ℕ) (o : Option Source) → slice_get works.file.entries i ≡ o → option_and_then (work_of works.library) o ≡ option_and_then as_work o
      by_entry i None is = refl
      by_entry i (Some e) is = found i e is

      by_index : (o : Option ℕ) → option_and_then (work_of works.library) (option_and_then (slice_get works.file.entries) o) ≡ option_and_then as_work (option_and_then (slice_get works.file.entries) o)
      by_index None = refl
      by_index (Some i) = by_entry i (slice_get works.file.entries i) refl

-- entries that say the same are one work
values_same : (e f : Source) → SaysTheSame e f → values e.fields ≡ values f.fields
values_same e f h = fun_ext at
  where
    other : (o : Option (List ℕ)) → option_and_then (λ n. filled (text_named n e.fields)) o ≡ option_and_then (λ n. filled (text_named n f.fields)) o
    other None = refl
    other (Some n) = ap filled (h.texts n)

    at : (name : List ℕ) → values e.fields name ≡ values f.fields name
    at name = λ i. cond (is_never_written name) None (option_or (filled (h.texts name i)) (other (lookup (bytes_eq name) other_names) i))

pub works_same : (o p : Option Source) → SayTheSame o p → option_and_then as_work o ≡ option_and_then as_work p
works_same None None h = refl
works_same None (Some f) h = absurd h
works_same (Some e) None h = absurd h
works_same (Some e) (Some f) h =
    let fields = values_same e f h in
    λ i. cond (is_xdata (written_type (h.entry_type i))) None (Some (bridge.work_of (h.key i) (written_type (h.entry_type i)) (fields i)))
