-- Entries whose fields are read first, and whose names are looked at when all of them are known, are what reading them one after the
-- other gives.
use Rattle.std.proofs.Common.{◌≡◌, ℕ, suc, Bool, true, false, cond, List, [], ◌∷◌, ◌++◌, length, map, slice_get, Bor, Option, Some, None, Result, Ok, Err, append-nil, true≢false, refl, sym, ap, subst, ◌∙◌, arith}
use Rattle.std.specs.Prelude.{is_some, IfSome}
use Rattle.laws.specs.Results.{◌>>=◌}
use Rattle.laws.specs.Text.{text}
use Rattle.biblatex_text.specs.Raw.{At, Entry}
use Rattle.biblatex_fields.specs.Abbreviations.{Glossary}
use Rattle.biblatex_fields.specs.Fields.{Named, fields_of}
use Rattle.biblatex_entries.specs.Entries.{Source, sources_view}
use Rattle.biblatex_entries.specs.declared.entry.Entry.{Entry as Held}
use Rattle.biblatex_text.specs.declared.spanned.Spanned.{Spanned}
use Rattle.biblatex_text.specs.Views.{spanned_text_view}
use Rattle.biblatex.specs.declared.indices.NamedIndex.{NamedIndex}
use Rattle.biblatex.specs.Indices.{names_in, meaning_in}
use Rattle.biblatex.specs.Naming.{names_from, is_below, first_repeated}
use Rattle.biblatex_meaning.specs.Listed.{pushed, last_named}
use Rattle.biblatex.specs.Bibliographies.{Indexed, indexed}
use Rattle.biblatex.specs.Errors.{loaded_with_keys}
use Rattle.biblatex.specs.Loading.{as_read, at_both, by_number, ends, with_names}
use Rattle.biblatex_meaning.specs.Reading.{Refusal, refused_at, duplicate_key, Loaded, nothing_loaded, source_of, unless_known, entries_after, loaded, entry_read, UpToFault, one_read, up_to_fault}
use Rattle.biblatex_meaning.proofs.ListedNames.{length_last, last_named-last}
use Rattle.biblatex.proofs.NamingSources.{known_before}
use Rattle.biblatex_reading.proofs.ReadingSteps.{moved_over}

-- entries that were read go last, one after the other, up to a key that has a meaning
abbrev taken_in : Loaded → List Source → List (At (List ℕ)) → Result Loaded Refusal
taken_in l [] keys = Ok l
taken_in l (e ∷ es) [] = Ok l
taken_in l (e ∷ es) (key ∷ keys) = unless_known (is_some (l.listed.index e.key)) l key e >>= λ m. taken_in m es keys

-- first all entries up to a fault, then the fault
in_two : (g : Glossary) (l : Loaded) (es : List (At Entry)) → entries_after g l es ≡ (let r = up_to_fault g es in taken_in l r.entries r.keys >>= ends r.fault)
in_two g l [] = refl
in_two g l (e ∷ es) = by_fields (fields_of g e.v.fields) (λ m. in_two g m es)
  where
    rest : UpToFault
    rest = up_to_fault g es

    by_key : (fs : List Named) (b : Bool) → ((m : Loaded) → entries_after g m es ≡ (taken_in m rest.entries rest.keys >>= ends rest.fault))
        → (unless_known b l e.v.key (source_of e.v fs) >>= λ more. entries_after g more es) ≡ ((unless_known b l e.v.key (source_of e.v fs) >>= λ m. taken_in m rest.entries rest.keys) >>= ends rest.fault)
    by_key fs true more = refl
    by_key fs false more = more (record { listed = pushed (source_of e.v fs) l.listed; keys = l.keys ++ e.v.key ∷ [] })

    by_fields : (r : Result (List Named) Refusal) → ((m : Loaded) → entries_after g m es ≡ (taken_in m rest.entries rest.keys >>= ends rest.fault))
        → ((r >>= λ fs. unless_known (is_some (l.listed.index (text e.v.key.v))) l e.v.key (source_of e.v fs)) >>= λ more. entries_after g more es)
        ≡ (let read = one_read e.v.key (r >>= λ fs. Ok (source_of e.v fs)) rest in taken_in l read.entries read.keys >>= ends read.fault)
    by_fields (Err x) more = refl
    by_fields (Ok fs) more = by_key fs (is_some (l.listed.index (text e.v.key.v))) more

at_end : {X : Type 0} (xs ys : List X) (y : X) → slice_get (xs ++ y ∷ ys) (length xs) ≡ Some y
at_end [] ys y = refl
at_end (x ∷ xs) ys y = at_end xs ys y

pushed_is : (ds : List Source) (keys : List (At (List ℕ))) (e : Source) (key : At (List ℕ)) → record { listed = pushed e (as_read ds keys).listed; keys = keys ++ key ∷ [] } ≡ as_read (ds ++ e ∷ []) (keys ++ key ∷ [])
pushed_is ds keys e key = λ i. record { listed = record { entries = ds ++ e ∷ []; index = λ name. sym (last_named-last name ds e) i }; keys = keys ++ key ∷ [] }

-- where the first entry whose key has a meaning is known, entries are taken in up to it
taken_by : (all : List Source) (every : List (At (List ℕ))) (es ds : List Source) (keys done : List (At (List ℕ))) → all ≡ ds ++ es → every ≡ done ++ keys → length es ≡ length keys → length ds ≡ length done
    → taken_in (as_read ds done) es keys ≡ by_number (first_repeated (names_from 0 all) (length ds) es) all every
taken_by all every [] ds [] done is_all is_every long same = λ i. Ok (as_read (sym (is_all ∙ append-nil ds) i) (sym (is_every ∙ append-nil done) i))
taken_by all every [] ds (k ∷ keys) done is_all is_every long same = absurd (omega (arith, long))
taken_by all every (e ∷ es) ds [] done is_all is_every long same = absurd (omega (arith, long))
taken_by all every (e ∷ es) ds (k ∷ keys) done is_all is_every long same =
    let known = known_before ds (e ∷ es) 0 (length ds) e.key (omega arith) ∙ ap (λ (xs : List Source). is_below (length ds) (meaning_in (names_from 0 xs) e.key)) (sym is_all) in
    by_known (is_some (last_named e.key ds)) (is_below (length ds) (meaning_in (names_from 0 all) e.key)) known
    (taken_by all every es (ds ++ e ∷ []) keys (done ++ k ∷ []) (is_all ∙ sym (moved_over ds es e)) (is_every ∙ sym (moved_over done keys k)) (omega (arith, long)) (length_last ds e ∙ (ap suc same ∙ sym (length_last done k))))
  where
    by_known : (b c : Bool) → b ≡ c → taken_in (as_read (ds ++ e ∷ []) (done ++ k ∷ [])) es keys ≡ by_number (first_repeated (names_from 0 all) (length (ds ++ e ∷ [])) es) all every
        → (unless_known b (as_read ds done) k e >>= λ m. taken_in m es keys) ≡ by_number (cond c (Some (length ds)) (first_repeated (names_from 0 all) (suc (length ds)) es)) all every
    by_known true false alike more = absurd (true≢false alike)
    by_known false true alike more = absurd (true≢false (sym alike))
    by_known true true alike more =
        let entry : slice_get all (length ds) ≡ Some e = ap (λ (xs : List Source). slice_get xs (length ds)) is_all ∙ at_end ds es e in
        let key : slice_get every (length ds) ≡ Some k = ap (λ (xs : List (At (List ℕ))). slice_get xs (length ds)) is_every ∙ (ap (slice_get (done ++ k ∷ keys)) same ∙ at_end done keys k) in
        rw (entry, key) refl
    by_known false false alike more =
        ap (λ (m : Loaded). taken_in m es keys) (pushed_is ds done e k)
        ∙ (more ∙ ap (λ (n : ℕ). by_number (first_repeated (names_from 0 all) n es) all every) (length_last ds e))

-- as many keys as entries
pub keys_long : (g : Glossary) (es : List (At Entry)) → length (up_to_fault g es).entries ≡ length (up_to_fault g es).keys
keys_long g [] = refl
keys_long g (e ∷ es) = by_read (entry_read g e.v) (keys_long g es)
  where
    rest : UpToFault
    rest = up_to_fault g es

    by_read : (r : Result Source Refusal) → length rest.entries ≡ length rest.keys → length (one_read e.v.key r rest).entries ≡ length (one_read e.v.key r rest).keys
    by_read (Ok s) long = ap suc long
    by_read (Err x) long = refl

-- what is read, by what was read up to a fault
pub read_once : (g : Glossary) (es : List (At Entry)) (r : UpToFault) → r ≡ up_to_fault g es → loaded g es ≡ with_names r
read_once g es r is =
    let u = up_to_fault g es in
    in_two g nothing_loaded es
    ∙ (ap (λ (x : Result Loaded Refusal). x >>= ends u.fault) (taken_by u.entries u.keys u.entries [] u.keys [] refl refl (keys_long g es) refl)
    ∙ ap (λ (x : UpToFault). by_number (first_repeated (names_from 0 x.entries) 0 x.entries) x.entries x.keys >>= ends x.fault) (sym is))

pub keys_as_long : (g : Glossary) (es : List (At Entry)) (r : UpToFault) → r ≡ up_to_fault g es → length r.entries ≡ length r.keys
keys_as_long g es r is = subst (λ (x : UpToFault). length x.entries ≡ length x.keys) (sym is) (keys_long g es)

ends_with : (total : Result Loaded Refusal) (o : Option Refusal) (r : Refusal) → o ≡ Some r → total ≡ Err r → IfSome o (λ x. total ≡ Err x)
ends_with total o r is refused = subst (λ (p : Option Refusal). IfSome p (λ x. total ≡ Err x)) (sym is) refused

ends_at : (total : Result Loaded Refusal) (o : Option Refusal) (l : Loaded) → total ≡ ends o l → IfSome o (λ x. total ≡ Err x)
ends_at total None l is = tt
ends_at total (Some r) l is = is

-- the first key that is a name of an entry before is refused
pub key_refused : (r : UpToFault) (n : ℕ) (e : Source) (key : At (List ℕ)) (o : Option Refusal) → Some n ≡ first_repeated (names_from 0 r.entries) 0 r.entries → slice_get r.entries n ≡ Some e → slice_get r.keys n ≡ Some key
    → o ≡ Some (refused_at key (duplicate_key e.key)) → IfSome o (λ x. with_names r ≡ Err x)
key_refused r n e key o found entry keyed refusal =
    ends_with (with_names r) o (refused_at key (duplicate_key e.key)) refusal (ap (λ (m : Option ℕ). by_number m r.entries r.keys >>= ends r.fault) (sym found)
    ∙ ((λ i. at_both (entry i) (keyed i) (as_read r.entries r.keys) >>= ends r.fault)))

-- where there is none, the fault is
pub fault_refused : (r : UpToFault) (o : Option Refusal) → None ≡ first_repeated (names_from 0 r.entries) 0 r.entries → o ≡ r.fault → IfSome o (λ x. with_names r ≡ Err x)
fault_refused r o none fault =
    ends_at (with_names r) o (as_read r.entries r.keys) (ap (λ (m : Option ℕ). by_number m r.entries r.keys >>= ends r.fault) (sym none)
    ∙ ap (λ (f : Option Refusal). ends f (as_read r.entries r.keys)) (sym fault))

-- and where there is no fault, all entries are read
pub all_read : (r : UpToFault) → None ≡ first_repeated (names_from 0 r.entries) 0 r.entries → r.fault ≡ None → with_names r ≡ Ok (as_read r.entries r.keys)
all_read r none whole =
    ap (λ (m : Option ℕ). by_number m r.entries r.keys >>= ends r.fault) (sym none)
    ∙ ap (λ (f : Option Refusal). ends f (as_read r.entries r.keys)) whole

-- what was read, as it lies in memory
pub read_there : (es : List Held) (ns : List NamedIndex) (b : Indexed) (keys : List (Spanned (Bor (List ℕ)))) → b ≡ indexed es ns → meaning_in (names_in ns) ≡ (λ name. last_named name (sources_view es)) → as_read (sources_view es) (map spanned_text_view keys) ≡ loaded_with_keys b keys
read_there es ns b keys is meant =
    (λ i. record { listed = record { entries = sources_view es; index = sym meant i }; keys = map spanned_text_view keys })
    ∙ ap (λ (x : Indexed). loaded_with_keys x keys) (sym is)
