-- Entries of a catalog have the works and the faults of the resolved entries.
use Rattle.std.proofs.Common.{◌≡◌, ℕ, zero, suc, ◌+◌, ◌≤◌, Bool, true, false, true≢false, not, ◌||◌, List, [], ◌∷◌, ◌++◌, length, map, drop, slice_get, Option, Some, None, Result, option_map, bytes_eq, codes, refl, sym, ap, ◌∙◌, append-nil, arith}
use Rattle.std.specs.Prelude.{if◌then◌else◌, option_and_then, option_to_list}
use Rattle.std.specs.List.{flat_map, list_any}
use Rattle.std.specs.Map.{lookup}
use Rattle.std.specs.Option.{option_or}
use Rattle.std.proofs.Math.Path.{fun_ext}
use Rattle.std.proofs.lemmas.Bool.{and_parts, and_right}
use Rattle.std.proofs.lemmas.List.{drop_all}
use Rattle.std.proofs.lemmas.Option.{same_Some}
use Rattle.std.proofs.lemmas.Slice.Eq.{bytes_eq-Decides}
use Rattle.biblatex_writing.specs.FieldNames.{other_names, is_never_written}
use Rattle.biblatex.specs.Catalogs.{IsEntryAs}
use Rattle.biblatex.specs.Entries.{Source}
use Rattle.biblatex.specs.Fields.{Named, value_named, text_named}
use Rattle.biblatex.specs.Resolved.{head}
use Rattle.biblatex.specs.TypeNames.{TypeName, known, is_one_of, written_type}
use Rattle.biblatex.specs.Value.{Value}
use Rattle.biblatex_dates.specs.Parts.{of_parts}
use Rattle.biblatex_entries.specs.Roles.{role_of}
use Rattle.biblatex_entries.specs.Typed.{characters_of}
use Rattle.biblatex_entries.specs.declared.role.Role.TheVariants.{Article, Periodical, PartOfBook, PartOfOther, Book, MultiVolumeBook, Volume, MultiVolume, XData, Set, Other}
use Rattle.biblatex_inherited_fields.specs.Table as roles
use Rattle.biblatex_inherited_fields.specs.Table.{is_among}
use Rattle.literature.specs.Keys.{with_key}
use Rattle.literature_entries.specs.EntriesData.{EntryData}
use Rattle.interop_values.specs.Readings.{date_in, sure}
use Rattle.interop_values.specs.Values.{Values, filled, values}
use Rattle.interop.specs.Bridge.{Fault, fault_in, faults_of, work_of as bridged_work, unless_faulty}
use Rattle.interop.specs.Library.{key_of, is_xdata, works_in, all_faults, put_after}
use Rattle.cite_requests.specs.Cited.{come_to, marked_entries, marked_here, read_as_dates}
use Rattle.cite_requests.specs.Works.{work_of}
use Rattle.cite_requests.proofs.MarkedEntries.{marked_from, no_entry}

-- an entry that only lends its fields is written as one
tests : (a b c d e f g h x s : Bool)
    → roles.is_xdata (if a then Article else (if b then Periodical else (if c then PartOfBook else (if d then PartOfOther else (if e then Book else (if f then MultiVolumeBook else (if g then Volume else (if h then MultiVolume else (if x then XData else (if s then Set else Other)))))))))) ≡ true → x ≡ true
tests true b c d e f g h x s is = absurd (true≢false (sym is))
tests false true c d e f g h x s is = absurd (true≢false (sym is))
tests false false true d e f g h x s is = absurd (true≢false (sym is))
tests false false false true e f g h x s is = absurd (true≢false (sym is))
tests false false false false true f g h x s is = absurd (true≢false (sym is))
tests false false false false false true g h x s is = absurd (true≢false (sym is))
tests false false false false false false true h x s is = absurd (true≢false (sym is))
tests false false false false false false false true x s is = absurd (true≢false (sym is))
tests false false false false false false false false true s is = refl
tests false false false false false false false false false true is = absurd (true≢false (sym is))
tests false false false false false false false false false false is = absurd (true≢false (sym is))

named_xdata : (t : TypeName) → roles.is_xdata (role_of t) ≡ true → is_one_of (codes "xdata" ∷ []) t ≡ true
named_xdata t is =
    tests (is_one_of (codes "article" ∷ codes "suppperiodical" ∷ []) t) (is_one_of (codes "periodical" ∷ []) t) (is_one_of (codes "inbook" ∷ codes "bookinbook" ∷ codes "suppbook" ∷ []) t)
    (is_one_of (codes "incollection" ∷ codes "suppcollection" ∷ codes "inreference" ∷ codes "inproceedings" ∷ []) t) (is_one_of (codes "book" ∷ []) t) (is_one_of (codes "mvbook" ∷ []) t)
    (is_one_of (codes "collection" ∷ codes "proceedings" ∷ codes "reference" ∷ []) t) (is_one_of (codes "mvcollection" ∷ codes "mvproceedings" ∷ codes "mvreference" ∷ []) t) (is_one_of (codes "xdata" ∷ []) t) (is_one_of (codes "set" ∷ []) t) is

written_xdata : (t : TypeName) → is_one_of (codes "xdata" ∷ []) t ≡ true → is_xdata (written_type t) ≡ true
written_xdata t is = ap (is_one_of (codes "xdata" ∷ [])) written ∙ is
  where
    only : (b : Bool) → (b || false) ≡ true → b ≡ true
    only true is = refl
    only false is = absurd (true≢false (sym is))

    name : t.name ≡ codes "xdata"
    name = (bytes_eq-Decides t.name (codes "xdata")).0 (only (bytes_eq t.name (codes "xdata")) (and_parts t.is_known (list_any (bytes_eq t.name) (codes "xdata" ∷ [])) is).1)

    no_thesis : is_one_of (codes "mastersthesis" ∷ codes "phdthesis" ∷ []) t ≡ false
    no_thesis = and_right t.is_known (list_any (bytes_eq t.name) (codes "mastersthesis" ∷ codes "phdthesis" ∷ [])) (ap (λ (n : List ℕ). list_any (bytes_eq n) (codes "mastersthesis" ∷ codes "phdthesis" ∷ [])) name)

    no_report : is_one_of (codes "techreport" ∷ []) t ≡ false
    no_report = and_right t.is_known (list_any (bytes_eq t.name) (codes "techreport" ∷ [])) (ap (λ (n : List ℕ). list_any (bytes_eq n) (codes "techreport" ∷ [])) name)

    written : written_type t ≡ t
    written =
        ap (λ (b : Bool). if b then known (codes "thesis") else (if is_one_of (codes "techreport" ∷ []) t then known (codes "report") else t)) no_thesis
        ∙ ap (λ (b : Bool). if b then known (codes "report") else t) no_report

-- an entry that is a work lends in no other way
no_lender : (t : TypeName) → is_xdata (written_type t) ≡ false → roles.is_xdata (role_of t) ≡ false
no_lender t other = by (roles.is_xdata (role_of t)) refl
  where
    by : (b : Bool) → roles.is_xdata (role_of t) ≡ b → b ≡ false
    by true is = absurd (true≢false (sym (written_xdata t (named_xdata t is)) ∙ other))
    by false is = refl

-- what stands under a written name that has no other
value_same : (q : List ℕ) → lookup (bytes_eq q) other_names ≡ None → (fs gs : List Named) → value_named q fs ≡ value_named q gs → values fs q ≡ values gs q
value_same q none fs gs is = alone fs ∙ (ap (λ (o : Option Value). if is_never_written q then None else option_or (filled (option_map (λ v. v.text) o)) None) is ∙ sym (alone gs))
  where
    alone : (hs : List Named) → values hs q ≡ (if is_never_written q then None else option_or (filled (text_named q hs)) None)
    alone hs = ap (λ (o : Option (List ℕ)). if is_never_written q then None else option_or (filled (text_named q hs)) (option_and_then (λ other. filled (text_named other hs)) o)) none

-- fields that are read as dates have the same faults
faults_same : (key : List ℕ) (v w : Values) → v (codes "date") ≡ w (codes "date") → v (codes "year") ≡ w (codes "year") → v (codes "month") ≡ w (codes "month") → v (codes "day") ≡ w (codes "day")
    → v (codes "eventdate") ≡ w (codes "eventdate") → v (codes "origdate") ≡ w (codes "origdate") → v (codes "urldate") ≡ w (codes "urldate") → faults_of key v ≡ faults_of key w
faults_same key v w d y m n e o u = λ i.
    fault_in key (codes "date") (option_or (date_in (characters_of (d i))) (option_map sure (of_parts (characters_of (y i)) (Some (characters_of (m i))) (Some (characters_of (n i)))))) ++
    (fault_in key (codes "eventdate") (date_in (characters_of (e i))) ++
    (fault_in key (codes "origdate") (date_in (characters_of (o i))) ++
    fault_in key (codes "urldate") (date_in (characters_of (u i)))))

-- all values are the same where all fields are
values_same : (fs gs : List Named) → ((q : List ℕ) → value_named q fs ≡ value_named q gs) → values fs ≡ values gs
values_same fs gs is = fun_ext (λ q i.
    if is_never_written q then None else option_or (filled (option_map (λ v. v.text) (is q i))) (option_and_then (λ other. filled (option_map (λ v. v.text) (is other i))) (lookup (bytes_eq q) other_names)))

abbrev faults_in : List Source → List Fault
faults_in es = flat_map (λ (e : Source). faults_of e.key (values e.fields)) es

abbrev works_as : List Source → List EntryData
works_as es = map (λ (e : Source). bridged_work e.key (written_type e.entry_type) (values e.fields)) es

-- what works come to after others
abbrev come_from : List Fault → List EntryData → List Source → Result (List EntryData) (List Fault)
come_from fs ws es = unless_faulty (fs ++ faults_in es) (put_after ws (works_as es))

-- with those after it an entry that is a work, and one that is none
works_first : (d : Source) (rest : List Source) (b : Bool) → is_xdata (written_type d.entry_type) ≡ b → works_in (d ∷ rest) ≡ (if not b then d ∷ works_in rest else works_in rest)
works_first d rest b is = ap (λ (c : Bool). if not c then d ∷ works_in rest else works_in rest) is

module _ (d e : Source) (rest : List Source) (heads : head d ≡ head e) where
  keys : d.key ≡ e.key
  keys = ap (λ (h : List ℕ × TypeName). h.0) heads

  kinds : d.entry_type ≡ e.entry_type
  kinds = ap (λ (h : List ℕ × TypeName). h.1) heads

  lends : (b : Bool) → is_xdata (written_type e.entry_type) ≡ b → is_xdata (written_type d.entry_type) ≡ b
  lends b is = ap (λ (t : TypeName). is_xdata (written_type t)) kinds ∙ is

  -- neither is a work
  no_work : is_xdata (written_type e.entry_type) ≡ true → works_in (d ∷ rest) ≡ works_in (e ∷ rest)
  no_work is = works_first d rest true (lends true is) ∙ sym (works_first e rest true is)

  -- of an entry that is made with the fields alone that are read as dates
  dates_faults : (roles.is_xdata (role_of e.entry_type) ≡ false → (q : List ℕ) → is_among read_as_dates q ≡ true → value_named q d.fields ≡ value_named q e.fields) → all_faults (d ∷ rest) ≡ all_faults (e ∷ rest)
  dates_faults same = by (is_xdata (written_type e.entry_type)) refl
    where
      under : is_xdata (written_type e.entry_type) ≡ false → (q : List ℕ) → lookup (bytes_eq q) other_names ≡ None → is_among read_as_dates q ≡ true → values d.fields q ≡ values e.fields q
      under work q none is = value_same q none d.fields e.fields (same (no_lender e.entry_type work) q is)

      one : is_xdata (written_type e.entry_type) ≡ false → faults_of d.key (values d.fields) ≡ faults_of e.key (values e.fields)
      one work =
          ap (λ (k : List ℕ). faults_of k (values d.fields)) keys
          ∙ faults_same e.key (values d.fields) (values e.fields) (under work (codes "date") refl refl) (under work (codes "year") refl refl) (under work (codes "month") refl refl) (under work (codes "day") refl refl)
          (under work (codes "eventdate") refl refl) (under work (codes "origdate") refl refl) (under work (codes "urldate") refl refl)

      by : (b : Bool) → is_xdata (written_type e.entry_type) ≡ b → all_faults (d ∷ rest) ≡ all_faults (e ∷ rest)
      by true is = ap faults_in (no_work is)
      by false is =
          ap faults_in (works_first d rest false (lends false is))
          ∙ (ap (λ (fs : List Fault). fs ++ faults_in (works_in rest)) (one is) ∙ sym (ap faults_in (works_first e rest false is)))

  -- of an entry that is made with all fields
  whole_works : (fs : List Fault) (ws : List EntryData) → (roles.is_xdata (role_of e.entry_type) ≡ false → (q : List ℕ) → true ≡ true → value_named q d.fields ≡ value_named q e.fields) → come_to fs ws (d ∷ rest) ≡ come_to fs ws (e ∷ rest)
  whole_works fs ws same = by (is_xdata (written_type e.entry_type)) refl
    where
      by : (b : Bool) → is_xdata (written_type e.entry_type) ≡ b → come_to fs ws (d ∷ rest) ≡ come_to fs ws (e ∷ rest)
      by true is = ap (come_from fs ws) (no_work is)
      by false is =
          let vs : values d.fields ≡ values e.fields = values_same d.fields e.fields (λ q. same (no_lender e.entry_type is) q refl) in
          ap (come_from fs ws) (works_first d rest false (lends false is))
          ∙ ((λ i. unless_faulty (fs ++ (faults_of (keys i) (vs i) ++ faults_in (works_in rest))) (put_after ws (bridged_work (keys i) (written_type (kinds i)) (vs i) ∷ works_as (works_in rest))))
          ∙ sym (ap (come_from fs ws) (works_first e rest false is)))

-- the faults of an entry of a catalog, with those after it
pub faults_at : (o : Option Source) (d : Source) (rest : List Source) → IsEntryAs (is_among read_as_dates) o d → all_faults (d ∷ rest) ≡ all_faults (option_to_list o ++ rest)
faults_at None d rest as_it = absurd as_it
faults_at (Some e) d rest as_it = dates_faults d e rest as_it.0 as_it.1

-- all fields are also those that are read as dates
pub with_dates : (o : Option Source) (d : Source) → IsEntryAs (λ q. true) o d → IsEntryAs (is_among read_as_dates) o d
with_dates None d as_it = as_it
with_dates (Some e) d as_it = (as_it.0, λ other q is. as_it.1 other q refl)

-- the work of an entry of a catalog, with those after it
pub works_at : (fs : List Fault) (ws : List EntryData) (o : Option Source) (d : Source) (rest : List Source) → IsEntryAs (λ q. true) o d → come_to fs ws (d ∷ rest) ≡ come_to fs ws (option_to_list o ++ rest)
works_at fs ws None d rest as_it = absurd as_it
works_at fs ws (Some e) d rest as_it = whole_works d e rest as_it.0 fs ws as_it.1

-- the entry at an index, and those after it
one_from : (es : List Source) (i : ℕ) → drop i es ≡ option_to_list (slice_get es i) ++ drop (suc i) es
one_from [] zero = refl
one_from [] (suc i) = refl
one_from (e ∷ es) zero = refl
one_from (e ∷ es) (suc i) = one_from es i

pub faults_more : (es : List Source) (i : ℕ) (fs new all : List Fault) → ((rest : List Source) → new ++ all_faults rest ≡ fs ++ all_faults (option_to_list (slice_get es i) ++ rest))
    → fs ++ all_faults (drop i es) ≡ all → new ++ all_faults (drop (i + 1) es) ≡ all
faults_more es i fs new all step before =
    let next : i + 1 ≡ suc i = omega arith in
    step (drop (i + 1) es) ∙ (ap (λ (xs : List Source). fs ++ all_faults xs) (ap (λ (n : ℕ). option_to_list (slice_get es i) ++ drop n es) next ∙ sym (one_from es i)) ∙ before)

pub faults_all : (es : List Source) (i : ℕ) (fs all : List Fault) → length es ≤ i → fs ++ all_faults (drop i es) ≡ all → fs ≡ all
faults_all es i fs all past before = sym (ap (λ (xs : List Source). fs ++ all_faults xs) (drop_all i es past) ∙ append-nil fs) ∙ before

pub works_more : (ms : List Bool) (es : List Source) (i : ℕ) (fs new : List Fault) (ws more : List EntryData) (all : Result (List EntryData) (List Fault))
    → ((rest : List Source) → come_to new more rest ≡ come_to fs ws (marked_here (slice_get ms i) (slice_get es i) ++ rest))
    → come_to fs ws (marked_entries (drop i ms) (drop i es)) ≡ all → come_to new more (marked_entries (drop (i + 1) ms) (drop (i + 1) es)) ≡ all
works_more ms es i fs new ws more all step before =
    let next : i + 1 ≡ suc i = omega arith in
    step (marked_entries (drop (i + 1) ms) (drop (i + 1) es))
    ∙ (ap (come_to fs ws) (ap (λ (n : ℕ). marked_here (slice_get ms i) (slice_get es i) ++ marked_entries (drop n ms) (drop n es)) next ∙ sym (marked_from ms es i)) ∙ before)

pub works_all : (ms : List Bool) (es : List Source) (i : ℕ) (fs : List Fault) (ws : List EntryData) (all : Result (List EntryData) (List Fault)) → length es ≤ i
    → come_to fs ws (marked_entries (drop i ms) (drop i es)) ≡ all → come_to fs ws [] ≡ all
works_all ms es i fs ws all past before =
    sym (ap (come_to fs ws) (ap (marked_entries (drop i ms)) (drop_all i es past) ∙ no_entry (drop i ms))) ∙ before

-- the work that an entry is depends on its key and its type alone
pub same_work : (library : List EntryData) (d : Source) (o : Option Source) → Some (head d) ≡ option_map head o → work_of library d ≡ option_and_then (work_of library) o
same_work library d None is = absurd cc
same_work library d (Some e) is =
    let one : head d ≡ head e = same_Some (head d) (head e) is in
    λ i. if is_xdata (written_type (one i).1) then None else with_key key_of (one i).0 library

pub no_entry_work : (library : List EntryData) (o : Option Source) → None ≡ option_map head o → None ≡ option_and_then (work_of library) o
no_entry_work library None is = refl
no_entry_work library (Some e) is = absurd cc
