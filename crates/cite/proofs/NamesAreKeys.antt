-- In a file without aliases the names are the keys.
use Rattle.std.proofs.Common.{◌≡◌, ℕ, zero, suc, arith, Bool, true, false, ◌||◌, List, [], ◌∷◌, drop, get_or, length, map, slice_get, Option, Some, None, Result, Ok, Err, codes, refl, sym, ap, ◌∙◌}
use Rattle.std.specs.Prelude.{IfSome}
use Rattle.std.specs.List.{AllByRecursion, list_any}
use Rattle.std.specs.Option.{option_map}
use Rattle.std.specs.Str.{bytes_eq}
use Rattle.std.proofs.lemmas.Option.{none-some}
use Rattle.biblatex_dates.specs.declared.date.Date.{Date}
use Rattle.biblatex_fields.specs.Fields.{value_named}
use Rattle.biblatex_fields.specs.Value.{Value}
use Rattle.biblatex_text.specs.Items.{raw_of}
use Rattle.biblatex_text.specs.Raw.{Raw}
use Rattle.biblatex_text.specs.declared.token.Fault.{Fault}
use Rattle.biblatex_entries.specs.Entries.{Source, names_of, text_in}
use Rattle.biblatex_entries.specs.Names.{listed}
use Rattle.biblatex_entries.specs.Roles.{role_of}
use Rattle.biblatex_inheritance.specs.Resolved.{Offer, Table, date_for, dated, first, first_offer, offers, own, resolved, undated}
use Rattle.biblatex.specs.Listed.{Listed, after_first, last_named, references}
use Rattle.biblatex.specs.Reading.{Loaded, Refusal, loaded}
use Rattle.biblatex.specs.Resolved.{IsResolved, IsTextMeaningOf, Means, TextMeans, head, tables}
use Rattle.reference_graph.specs.References.{references_of}
use Rattle.biblatex_reading_back.proofs.EntriesBack.{nothing_listed}

-- an entry without aliases
abbrev pub HasNoAliases : Source → Type 0
HasNoAliases e = value_named (codes "ids") e.fields ≡ None

-- the index of the last entry with a key
abbrev pub last_with : List ℕ → List Source → Option ℕ
last_with name [] = None
last_with name (e ∷ es) = after_first (last_with name es) (bytes_eq name e.key)

key_alone : (e : Source) → HasNoAliases e → names_of e ≡ e.key ∷ []
key_alone e none =
    ap (λ (v : Option Value). e.key ∷ listed (text_in (option_map (λ x. x.text) v))) none ∙ ap (λ (names : List (List ℕ)). e.key ∷ names) nothing_listed

or_false : (b : Bool) → (b || false) ≡ b
or_false true = refl
or_false false = refl

last_same : (name : List ℕ) (read resolved : List Source) → map head resolved ≡ map head read → AllByRecursion HasNoAliases read → last_named name read ≡ last_with name resolved
last_same name [] [] heads none = refl
last_same name [] (d ∷ ds) heads none = absurd (let e : suc (length (map head ds)) ≡ 0 = ap length heads in omega (arith, e))
last_same name (e ∷ es) [] heads none = absurd (let f : 0 ≡ suc (length (map head es)) = ap length heads in omega (arith, f))
last_same name (e ∷ es) (d ∷ ds) heads none =
    let key : d.key ≡ e.key = λ i. (get_or (heads i) 0 (head d)).0 in
    let named : list_any (bytes_eq name) (names_of e) ≡ bytes_eq name d.key =
    ap (list_any (bytes_eq name)) (key_alone e none.0) ∙ (or_false (bytes_eq name e.key) ∙ ap (bytes_eq name) (sym key)) in
    λ i. after_first (last_same name es ds (ap (drop 1) heads) none.1 i) (named i)

-- what holds at each index holds of all
all_at : (P : Source → Type 0) (es : List Source) → ((i : ℕ) → IfSome (slice_get es i) P) → AllByRecursion P es
all_at P [] h = tt
all_at P (e ∷ es) h = (h 0, all_at P es (λ i. h (suc i)))

nothing_at : (es : List Source) → AllByRecursion HasNoAliases es → (i : ℕ) → tables es i (codes "ids") ≡ None
nothing_at [] all i = refl
nothing_at (e ∷ es) all zero = all.0
nothing_at (e ∷ es) all (suc i) = nothing_at es all.1 i

-- a date changes no aliases
kept : (o : Option Date) (t : Table) → dated o t (codes "ids") ≡ t (codes "ids")
kept None t = refl
kept (Some d) t = refl

first_none : (v w : Option Value) → first v w ≡ None → v ≡ None
first_none None w is = refl
first_none (Some v) w is = absurd (none-some v (sym is))

own_none : (e : Source) (os : List Offer) → resolved e os (codes "ids") ≡ None → HasNoAliases e
own_none e os is =
    first_none (own e (codes "ids")) (first_offer (role_of e.entry_type) os (codes "ids")) (sym (kept (date_for (role_of e.entry_type) os) (undated e os)) ∙ is)

-- entries have no aliases where they have none once they are resolved
read_none : (read file : Listed) → IsResolved read file → AllByRecursion HasNoAliases file.entries → AllByRecursion HasNoAliases read.entries
read_none read file h none = all_at HasNoAliases read.entries at
  where
    by : (i : ℕ) (o : Option Source)
        → IfSome o (λ e. (name : List ℕ) → tables file.entries i name ≡ resolved e (offers read.entries (tables file.entries) (references_of (references read) i)) name)
        → IfSome o HasNoAliases
    by i None solved = tt
    by i (Some e) solved = own_none e (offers read.entries (tables file.entries) (references_of (references read) i)) (sym (solved (codes "ids")) ∙ nothing_at file.entries none i)

    at : (i : ℕ) → IfSome (slice_get read.entries i) HasNoAliases
    at i = by i (slice_get read.entries i) (h.equation i)

-- each name means the last entry that has it as its key
abbrev pub NamesAreKeys : Listed → Type 0
NamesAreKeys file = (name : List ℕ) → file.index name ≡ last_with name file.entries

module _ (file : Listed) (none : AllByRecursion HasNoAliases file.entries) where
  by_loaded : (answer : Result Loaded Refusal) → Means answer (Ok file) → NamesAreKeys file
  by_loaded (Ok read) means name =
      ap (λ (index : List ℕ → Option ℕ). index name) means.1.index
      ∙ (means.0 name ∙ last_same name read.listed.entries file.entries means.1.heads (read_none read.listed file means.1 none))
  by_loaded (Err r) is name = absurd cc

  by_raw : (answer : Result Raw (Fault × ℕ)) → IsTextMeaningOf answer (Ok file) → NamesAreKeys file
  by_raw (Ok raw) means name = by_loaded (loaded means.glossary raw.entries) means.means name
  by_raw (Err f) is name = absurd cc

  pub names_are_keys : (cs : List ℕ) → TextMeans cs (Ok file) → NamesAreKeys file
  names_are_keys cs means = by_raw (raw_of cs) means
