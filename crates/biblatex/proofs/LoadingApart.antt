-- Entries that say of names what they say with the fields beside them: names mean the same, the same key is refused, and the same entries
-- are referred to.
use Rattle.std.specs.Global.{Global}
use Rattle.std.proofs.Common.{◌≡◌, ℕ, suc, List, [], ◌∷◌, ◌++◌, length, map, drop, get_or, slice_get, filter_map, bytes_eq, Vec, Bor, Option, Some, None, Result, Ok, Err, refl, sym, ap, subst, ◌∙◌}
use Rattle.std.specs.Prelude.{IfSome, option_map, if◌then◌else◌}
use Rattle.std.specs.List.{list_any}
use Rattle.std.proofs.lemmas.Option.{slice_get-map, same_Some}
use Rattle.laws.specs.Results.{◌>>=◌}
use Rattle.biblatex_text.specs.Raw.{At, Entry as RawEntry}
use Rattle.biblatex_text.specs.Views.{spanned_text_view}
use Rattle.biblatex_text.specs.declared.spanned.Spanned.{Spanned}
use Rattle.biblatex_fields.specs.Abbreviations.{Glossary}
use Rattle.biblatex_entries.specs.Entries.{Source}
use Rattle.biblatex_suppliers.specs.Written.{all_with, said, IsSetAside}
use Rattle.biblatex_suppliers.specs.declared.shared.Shared.{Shared}
use Rattle.biblatex_suppliers.proofs.WrittenEntries.{all_long, all_more}
use Rattle.biblatex_meaning.specs.Listed.{last_named, after_first, references}
use Rattle.biblatex_meaning.specs.Reading.{Refusal, refused_at, duplicate_key, Loaded, UpToFault, entry_read, one_read, loaded, up_to_fault}
use Rattle.biblatex_meaning.proofs.ListedNames.{length_last}
use Rattle.biblatex_reading.proofs.ReadingSteps.{followed}
use Rattle.biblatex.specs.Bibliographies.{Indexed, listed_view, IsWithin}
use Rattle.biblatex.specs.Errors.{loaded_with_keys}
use Rattle.biblatex.specs.Indices.{Names, meaning_in, AreWithin}
use Rattle.biblatex.specs.Loading.{as_read, at_both, by_number, ends, with_names, AreApart, whole}
use Rattle.biblatex.specs.Naming.{numbered, names_from, is_below, first_repeated}
use Rattle.biblatex.proofs.ReadingOnce.{keys_as_long, read_once}

-- what entries say of names
abbrev Said : Type 0
Said = List ℕ × (List (List ℕ) × List (List ℕ))

-- the first of two lists of it, and the others
head_same : (e d : Source) (es ds : List Source) → map said (e ∷ es) ≡ map said (d ∷ ds) → said e ≡ said d
head_same e d es ds same = ap (λ (xs : List Said). get_or xs 0 (said e)) same

tail_same : (e d : Source) (es ds : List Source) → map said (e ∷ es) ≡ map said (d ∷ ds) → map said es ≡ map said ds
tail_same e d es ds same = ap (drop 1) same

-- they have the same names, and to names the same meaning
names_alike : (k : ℕ) (es ds : List Source) → map said es ≡ map said ds → names_from k es ≡ names_from k ds
names_alike k [] [] same = refl
names_alike k [] (d ∷ ds) same = absurd cc
names_alike k (e ∷ es) [] same = absurd cc
names_alike k (e ∷ es) (d ∷ ds) same =
    let one = ap (λ (s : Said). numbered s.1.0 k) (head_same e d es ds same) in
    let more = names_alike (suc k) es ds (tail_same e d es ds same) in
    λ i. one i ++ more i

named_alike : (name : List ℕ) (es ds : List Source) → map said es ≡ map said ds → last_named name es ≡ last_named name ds
named_alike name [] [] same = refl
named_alike name [] (d ∷ ds) same = absurd cc
named_alike name (e ∷ es) [] same = absurd cc
named_alike name (e ∷ es) (d ∷ ds) same =
    let one = head_same e d es ds same in
    let more = named_alike name es ds (tail_same e d es ds same) in
    λ i. after_first (more i) (list_any (bytes_eq name) (one i).1.0)

-- the same key has a meaning already
repeated_alike : (names : Names) (k : ℕ) (es ds : List Source) → map said es ≡ map said ds → first_repeated names k es ≡ first_repeated names k ds
repeated_alike names k [] [] same = refl
repeated_alike names k [] (d ∷ ds) same = absurd cc
repeated_alike names k (e ∷ es) [] same = absurd cc
repeated_alike names k (e ∷ es) (d ∷ ds) same =
    let one = head_same e d es ds same in
    let more = repeated_alike names (suc k) es ds (tail_same e d es ds same) in
    λ i. if is_below k (meaning_in names (one i).0) then Some k else more i

-- they refer to the same entries
referred_alike : (index : List ℕ → Option ℕ) (es ds : List Source) → map said es ≡ map said ds → references (record { entries = es; index = index }) ≡ references (record { entries = ds; index = index })
referred_alike index [] [] same = refl
referred_alike index [] (d ∷ ds) same = absurd cc
referred_alike index (e ∷ es) [] same = absurd cc
referred_alike index (e ∷ es) (d ∷ ds) same =
    let one = head_same e d es ds same in
    let more = referred_alike index es ds (tail_same e d es ds same) in
    λ i. filter_map index (one i).1.1 ∷ more i

pub references_alike : (b : Indexed) (vs : List (Vec Shared Global)) → AreApart b.entries vs → references (listed_view b) ≡ references (listed_view (whole b vs))
references_alike b vs apart = referred_alike (meaning_in b.names) b.entries (all_with b.entries vs) apart.same

-- names mean the same entries
pub within_apart : (b : Indexed) (vs : List (Vec Shared Global)) → IsWithin b → IsWithin (whole b vs)
within_apart b vs within = subst (λ (n : ℕ). AreWithin (meaning_in b.names) n) (sym (all_long b.entries vs)) within

-- the entry of a number says the same
at_alike : (es ds : List Source) (n : ℕ) → map said es ≡ map said ds → option_map said (slice_get es n) ≡ option_map said (slice_get ds n)
at_alike es ds n same = sym (slice_get-map said es n) ∙ (ap (λ (xs : List Said). slice_get xs n) same ∙ slice_get-map said ds n)

-- what was read, with other entries
abbrev with_entries : List Source → Loaded → Loaded
with_entries es l = record { listed = record { entries = es; index = l.listed.index }; keys = l.keys }

abbrev with_these : List Source → Result Loaded Refusal → Result Loaded Refusal
with_these es r = r >>= λ l. Ok (with_entries es l)

read_alike : (es ds : List Source) (keys : List (At (List ℕ))) (fault : Option Refusal) → map said es ≡ map said ds → (Ok (as_read ds keys) >>= ends fault) ≡ with_these ds (Ok (as_read es keys) >>= ends fault)
read_alike es ds keys None same = λ i. Ok (record { listed = record { entries = ds; index = λ name. sym (named_alike name es ds same) i }; keys = keys })
read_alike es ds keys (Some r) same = refl

-- entries that say the same come to the same
with_names_alike : (es ds : List Source) (keys : List (At (List ℕ))) (fault : Option Refusal) → map said es ≡ map said ds
    → with_names (record { entries = ds; keys = keys; fault = fault }) ≡ with_these ds (with_names (record { entries = es; keys = keys; fault = fault }))
with_names_alike es ds keys fault same =
    ap (λ (m : Option ℕ). by_number m ds keys >>= ends fault) (sym (ap (λ (ns : Names). first_repeated ns 0 es) (names_alike 0 es ds same) ∙ repeated_alike (names_from 0 ds) 0 es ds same))
    ∙ by (first_repeated (names_from 0 es) 0 es)
  where
    at : (o p : Option Source) (k : Option (At (List ℕ))) → option_map said o ≡ option_map said p → (at_both p k (as_read ds keys) >>= ends fault) ≡ with_these ds (at_both o k (as_read es keys) >>= ends fault)
    at None None k is = read_alike es ds keys fault same
    at None (Some d) k is = absurd cc
    at (Some e) None k is = absurd cc
    at (Some e) (Some d) None is = read_alike es ds keys fault same
    at (Some e) (Some d) (Some key) is = ap (λ (s : Said). Err (refused_at key (duplicate_key s.0))) (sym (same_Some (said e) (said d) is))

    by : (m : Option ℕ) → (by_number m ds keys >>= ends fault) ≡ with_these ds (by_number m es keys >>= ends fault)
    by None = read_alike es ds keys fault same
    by (Some n) = at (slice_get es n) (slice_get ds n) (slice_get keys n) (at_alike es ds n same)

abbrev inner : Loaded → Result Loaded Refusal → Loaded
inner d (Ok l) = l
inner d (Err r) = d

-- what entries come to has these entries
entries_kept : (u : UpToFault) (l : Loaded) → with_names u ≡ Ok l → l.listed.entries ≡ u.entries
entries_kept u l is = by (first_repeated (names_from 0 u.entries) 0 u.entries) u.fault is
  where
    kept : (f : Option Refusal) → (Ok (as_read u.entries u.keys) >>= ends f) ≡ Ok l → l.listed.entries ≡ u.entries
    kept None is = sym (ap (λ (r : Result Loaded Refusal). (inner (as_read u.entries u.keys) r).listed.entries) is)
    kept (Some r) is = absurd cc

    at : (o : Option Source) (k : Option (At (List ℕ))) (f : Option Refusal) → (at_both o k (as_read u.entries u.keys) >>= ends f) ≡ Ok l → l.listed.entries ≡ u.entries
    at None k f is = kept f is
    at (Some e) None f is = kept f is
    at (Some e) (Some key) f is = absurd cc

    by : (m : Option ℕ) (f : Option Refusal) → (by_number m u.entries u.keys >>= ends f) ≡ Ok l → l.listed.entries ≡ u.entries
    by None f is = kept f is
    by (Some n) f is = at (slice_get u.entries n) (slice_get u.keys n) f is

-- what is loaded, by what the entries without the fields beside them come to
loaded_by : (g : Glossary) (raws : List (At RawEntry)) (u : UpToFault) (ds : List Source) → record { entries = ds; keys = u.keys; fault = u.fault } ≡ up_to_fault g raws → map said u.entries ≡ map said ds → loaded g raws ≡ with_these ds (with_names u)
loaded_by g raws u ds is same = read_once g raws (record { entries = ds; keys = u.keys; fault = u.fault }) is ∙ with_names_alike u.entries ds u.keys u.fault same

-- as many keys as entries without the fields beside them
pub keys_apart : (g : Glossary) (raws : List (At RawEntry)) (u : UpToFault) (vs : List (Vec Shared Global)) → record { entries = all_with u.entries vs; keys = u.keys; fault = u.fault } ≡ up_to_fault g raws → length u.entries ≡ length u.keys
keys_apart g raws u vs is = sym (all_long u.entries vs) ∙ keys_as_long g raws (record { entries = all_with u.entries vs; keys = u.keys; fault = u.fault }) is

pub loaded_apart : (g : Glossary) (raws : List (At RawEntry)) (u : UpToFault) (vs : List (Vec Shared Global)) (b : Indexed) (keys : List (Spanned (Bor (List ℕ)))) → record { entries = all_with u.entries vs; keys = u.keys; fault = u.fault } ≡ up_to_fault g raws
    → AreApart u.entries vs → with_names u ≡ Ok (loaded_with_keys b keys) → loaded g raws ≡ Ok (loaded_with_keys (whole b vs) keys)
loaded_apart g raws u vs b keys is apart ok =
    loaded_by g raws u (all_with u.entries vs) is apart.same
    ∙ (ap (with_these (all_with u.entries vs)) ok
    ∙ ap (λ (es : List Source). Ok (record { listed = record { entries = all_with es vs; index = meaning_in b.names }; keys = map spanned_text_view keys })) (sym (entries_kept u (loaded_with_keys b keys) ok)))

pub refused_apart : (g : Glossary) (raws : List (At RawEntry)) (u : UpToFault) (vs : List (Vec Shared Global)) (o : Option Refusal) → record { entries = all_with u.entries vs; keys = u.keys; fault = u.fault } ≡ up_to_fault g raws → AreApart u.entries vs
    → IfSome o (λ r. with_names u ≡ Err r) → IfSome o (λ r. loaded g raws ≡ Err r)
refused_apart g raws u vs None is apart refused = tt
refused_apart g raws u vs (Some r) is apart refused = loaded_by g raws u (all_with u.entries vs) is apart.same ∙ ap (with_these (all_with u.entries vs)) refused

-- the entries that are loaded say the same
pub kept_apart : (u : UpToFault) (vs : List (Vec Shared Global)) (b : Indexed) (keys : List (Spanned (Bor (List ℕ)))) → AreApart u.entries vs → with_names u ≡ Ok (loaded_with_keys b keys) → AreApart b.entries vs
kept_apart u vs b keys apart ok = subst (λ (es : List Source). AreApart es vs) (sym (entries_kept u (loaded_with_keys b keys) ok)) apart

-- one entry more, with the fields beside it
said-append : (es ds : List Source) → map said (es ++ ds) ≡ map said es ++ map said ds
said-append [] ds = refl
said-append (e ∷ es) ds = ap (λ (xs : List Said). said e ∷ xs) (said-append es ds)

pub last_whole : (es fs : List Source) (vs ws : List (Vec Shared Global)) (old new : Source) (v : Vec Shared Global) → fs ≡ es ++ new ∷ [] → ws ≡ vs ++ v ∷ [] → AreApart es vs → IsSetAside old new v.items → all_with fs ws ≡ all_with es vs ++ old ∷ []
last_whole es fs vs ws old new v is_fs is_ws apart aside = (λ i. all_with (is_fs i) (is_ws i)) ∙ (all_more es vs new v apart.long ∙ ap (λ (e : Source). all_with es vs ++ e ∷ []) aside.whole)

pub last_apart : (es fs : List Source) (vs ws : List (Vec Shared Global)) (old new : Source) (v : Vec Shared Global) → fs ≡ es ++ new ∷ [] → ws ≡ vs ++ v ∷ [] → AreApart es vs → IsSetAside old new v.items → AreApart fs ws
last_apart es fs vs ws old new v is_fs is_ws apart aside = record {
  long = ap length is_fs ∙ (length_last es new ∙ (ap suc apart.long ∙ (sym (length_last vs v) ∙ ap length (sym is_ws))));
  same = ap (map said) is_fs
      ∙ (said-append es (new ∷ [])
      ∙ ((λ i. apart.same i ++ aside.same i ∷ [])
      ∙ (sym (said-append (all_with es vs) (old ∷ [])) ∙ ap (map said) (sym (last_whole es fs vs ws old new v is_fs is_ws apart aside)))));
}

-- before all entries none was read
pub nothing_before : (g : Glossary) (raws : List (At RawEntry)) → followed [] [] (up_to_fault g raws) ≡ up_to_fault g raws
nothing_before g [] = refl
nothing_before g (e ∷ es) = by (entry_read g e.v)
  where
    by : (r : Result Source Refusal) → followed [] [] (one_read e.v.key r (up_to_fault g es)) ≡ one_read e.v.key r (up_to_fault g es)
    by (Ok s) = refl
    by (Err x) = refl
