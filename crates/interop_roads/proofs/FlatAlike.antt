-- Entries without `crossref` come to the same library.
use Rattle.std.proofs.Common.{◌≡◌, ℕ, Bool, true, false, not, cond, List, [], ◌∷◌, ◌++◌, map, filter, flat_map, Option, Some, None, Result, codes, refl, sym, ap, ◌∙◌, arith}
use Rattle.std.specs.Prelude.{option_and_then, if◌then◌else◌}
use Rattle.std.specs.List.{AllByRecursion}
use Rattle.std.specs.Map.{lookup}
use Rattle.std.specs.Option.{option_or}
use Rattle.std.specs.Str.{bytes_eq}
use Rattle.std.proofs.lemmas.Option.{none-some, same_Some}
use Rattle.std.proofs.lemmas.Slice.Eq.{bytes_eq-Decides}
use Rattle.std.proofs.Math.Path.{fun_ext}
use Rattle.biblatex_content.specs.Styled.{Member}
use Rattle.biblatex_entries.specs.Entries.{Source}
use Rattle.biblatex_entries.specs.TypeNames.{TypeName, is_one_of, written_type}
use Rattle.biblatex_fields.specs.Fields.{Named, text_named, value_named, without_field}
use Rattle.biblatex_fields.specs.Value.{Value}
use Rattle.biblatex_writing.specs.FieldNames.{is_never_written, other_names}
use Rattle.biblatex_writing.specs.Flat.{flat, flat_entry}
use Rattle.literature_numbers.specs.Numerics.{Numeral}
use Rattle.literature_values.specs.TypedViews.{ValueOrText}
use Rattle.literature_values.specs.declared.entry_type.EntryType.{EntryType}
use Rattle.literature_values.specs.declared.entry_type.EntryType.TheVariants as works
use Rattle.literature_entries.specs.EntriesData.{EntryData, Holding, wholes}
use Rattle.literature_entries.specs.Fields.{Fields, nothing_but}
use Rattle.interop_values.specs.Readings.{bytes_under, format_of, people_under}
use Rattle.interop_values.specs.Values.{Values, filled, values}
use Rattle.interop.specs.Bridge.{Fault, bridged, container_of, entry_in, faults_of, further, parent, titled_under, unless_faulty, work_of}
use Rattle.interop.specs.Fields.{also, container_fields, is_periodical, issue_of, issue_text, own_fields, series_number}
use Rattle.interop.specs.Kinds.{Container, Row, alone, part_of, row_of}
use Rattle.interop.specs.Library.{all_faults, all_works, is_xdata, library_of, put_after, works_in}

abbrev pub crossref : List ℕ
crossref = codes "crossref"

-- what stands under each name but `crossref`
abbrev hidden : Values → Values
hidden v name = cond (bytes_eq name crossref) None (v name)

-- the other fields stay
pub others_stay : (q : List ℕ) → bytes_eq q crossref ≡ false → (fs : List Named) → value_named q (without_field crossref fs) ≡ value_named q fs
others_stay q other [] = refl
others_stay q other (f ∷ fs) = by (bytes_eq crossref f.0) refl (others_stay q other fs)
  where
    by : (b : Bool) → bytes_eq crossref f.0 ≡ b → value_named q (without_field crossref fs) ≡ value_named q fs
        → value_named q (cond b fs (f ∷ without_field crossref fs)) ≡ cond (bytes_eq q f.0) (Some f.1) (value_named q fs)
    by true is more = sym (ap (λ (b : Bool). cond b (Some f.1) (value_named q fs)) (ap (bytes_eq q) (sym ((bytes_eq-Decides crossref f.0).0 is)) ∙ other))
    by false is more = ap (λ (o : Option Value). cond (bytes_eq q f.0) (Some f.1) o) more

texts_stay : (q : List ℕ) → bytes_eq q crossref ≡ false → (fs : List Named) → text_named q (without_field crossref fs) ≡ text_named q fs
texts_stay q other fs = λ i. elim (others_stay q other fs i) [
  | None ↦ None
  | Some v ↦ Some v.text
]

-- no field is written under another name than `crossref` that is `crossref`
other_differs : (rows : List (List ℕ × List ℕ)) → AllByRecursion (λ row. bytes_eq row.1 crossref ≡ false) rows → (n o : List ℕ) → lookup (bytes_eq n) rows ≡ Some o → bytes_eq o crossref ≡ false
other_differs [] all n o h = absurd (none-some o h)
other_differs (row ∷ rows) all n o h = by (bytes_eq n row.0) h (other_differs rows all.1 n o)
  where
    by : (b : Bool) → cond b (Some row.1) (lookup (bytes_eq n) rows) ≡ Some o → (lookup (bytes_eq n) rows ≡ Some o → bytes_eq o crossref ≡ false) → bytes_eq o crossref ≡ false
    by true is more = ap (λ (k : List ℕ). bytes_eq k crossref) (sym (same_Some row.1 o is)) ∙ all.0
    by false is more = more is

hidden_same : (fs : List Named) → hidden (values (without_field crossref fs)) ≡ hidden (values fs)
hidden_same fs = fun_ext at
  where
    other : (name : List ℕ) (o : Option (List ℕ)) → lookup (bytes_eq name) other_names ≡ o
        → option_and_then (λ n. filled (text_named n (without_field crossref fs))) o ≡ option_and_then (λ n. filled (text_named n fs)) o
    other name None is = refl
    other name (Some n) is = ap filled (texts_stay n (other_differs other_names (refl, (refl, (refl, (refl, (refl, (refl, (refl, (refl, tt)))))))) name n is) fs)

    by : (name : List ℕ) (b : Bool) → bytes_eq name crossref ≡ b → cond b None (values (without_field crossref fs) name) ≡ cond b None (values fs name)
    by name true is = refl
    by name false is = λ i. cond (is_never_written name) None (option_or (filled (texts_stay name is fs i)) (other name (lookup (bytes_eq name) other_names) refl i))

    at : (name : List ℕ) → hidden (values (without_field crossref fs)) name ≡ hidden (values fs) name
    at name = by name (bytes_eq name crossref) refl

-- the fields that depend on what is told of
issue_hidden : (b : Bool) (v : Values) → issue_of b (hidden v) ≡ issue_of b v
issue_hidden true v = refl
issue_hidden false v = refl

issue_text_hidden : (b : Bool) (v : Values) → issue_text b (hidden v) ≡ issue_text b v
issue_text_hidden true v = refl
issue_text_hidden false v = refl

series_hidden : (b : Bool) (v : Values) → series_number b (hidden v) ≡ series_number b v
series_hidden true v = refl
series_hidden false v = refl

container_hidden : (v : Values) (fs : Fields) → container_fields (hidden v) fs ≡ container_fields v fs
container_hidden v fs = λ i. record (container_fields v fs) {
  issue = issue_hidden (is_periodical fs.entry_type) v i;
  serial_number = also (codes "serial") (series_hidden (is_periodical fs.entry_type) v i) (also (codes "issn") (bytes_under (codes "issn") v) (also (codes "isbn") (bytes_under (codes "isbn") v) fs.serial_number));
  written =
      also (codes "volume") (bytes_under (codes "volume") v)
      (also (codes "volume-total") (bytes_under (codes "volumes") v)
      (also (codes "edition") (bytes_under (codes "edition") v)
      (also (codes "issue") (issue_text_hidden (is_periodical fs.entry_type) v i) fs.written)));
}

entry_hidden : (key : List ℕ) (v : Values) (t : EntryType) (o : Option (EntryType × List Member)) → entry_in key (hidden v) t o ≡ entry_in key v t o
entry_hidden key v t None = ap (λ (fs : Fields). Holding key fs (wholes (further (titled_under works.Anthology (codes "series") v) v))) (container_hidden v (own_fields v t))
entry_hidden key v t (Some outer) =
    ap (λ (fs : Fields). Holding key (own_fields v t) (wholes (parent fs (titled_under works.Anthology (codes "series") v) ∷ further [] v)))
    (container_hidden v (record (nothing_but outer.0) { title = Some (format_of outer.1); author = people_under (codes "bookauthor") v }))

-- no container has its title under `crossref`
abbrev IsNamedOther : Option Container → Type 0
IsNamedOther None = Unit {0}
IsNamedOther (Some c) = bytes_eq c.title crossref ≡ false

row_other : (t : TypeName) → IsNamedOther (row_of t).container
row_other t = by _ _ _ _ _ _ _ _ _ _ _ _ _ _ _ _
  where
    by : (b1 b2 b3 b4 b5 b6 b7 b8 b9 b10 b11 b12 b13 b14 b15 b16 : Bool) → IsNamedOther (if b1 then part_of works.Periodical (codes "journaltitle") works.Article else (if b2 then part_of works.Book (codes "booktitle") works.Chapter else (if b3 then part_of works.Anthology (codes "booktitle") works.Anthos else (if b4 then part_of works.Reference (codes "booktitle") works.Entry else (if b5 then part_of works.Proceedings (codes "booktitle") works.Article else (if b6 then alone works.Book else (if b7 then alone works.Anthology else (if b8 then alone works.Proceedings else (if b9 then alone works.Reference else (if b10 then alone works.Periodical else (if b11 then alone works.Report else (if b12 then alone works.Patent else (if b13 then alone works.Thesis else (if b14 then alone works.Web else (if b15 then alone works.Repository else (if b16 then alone works.Manuscript else alone works.Misc)))))))))))))))).container
    by true b2 b3 b4 b5 b6 b7 b8 b9 b10 b11 b12 b13 b14 b15 b16 = refl
    by false true b3 b4 b5 b6 b7 b8 b9 b10 b11 b12 b13 b14 b15 b16 = refl
    by false false true b4 b5 b6 b7 b8 b9 b10 b11 b12 b13 b14 b15 b16 = refl
    by false false false true b5 b6 b7 b8 b9 b10 b11 b12 b13 b14 b15 b16 = refl
    by false false false false true b6 b7 b8 b9 b10 b11 b12 b13 b14 b15 b16 = refl
    by false false false false false true b7 b8 b9 b10 b11 b12 b13 b14 b15 b16 = tt
    by false false false false false false true b8 b9 b10 b11 b12 b13 b14 b15 b16 = tt
    by false false false false false false false true b9 b10 b11 b12 b13 b14 b15 b16 = tt
    by false false false false false false false false true b10 b11 b12 b13 b14 b15 b16 = tt
    by false false false false false false false false false true b11 b12 b13 b14 b15 b16 = tt
    by false false false false false false false false false false true b12 b13 b14 b15 b16 = tt
    by false false false false false false false false false false false true b13 b14 b15 b16 = tt
    by false false false false false false false false false false false false true b14 b15 b16 = tt
    by false false false false false false false false false false false false false true b15 b16 = tt
    by false false false false false false false false false false false false false false true b16 = tt
    by false false false false false false false false false false false false false false false true = tt
    by false false false false false false false false false false false false false false false false = tt

title_hidden : (v : Values) (o : Option Container) → IsNamedOther o → container_of o (hidden v) ≡ container_of o v
title_hidden v None other = refl
title_hidden v (Some c) other = ap (λ (b : Bool). container_of (Some c) (λ name. cond b None (v name))) other

work_hidden : (key : List ℕ) (t : TypeName) (v : Values) → work_of key t (hidden v) ≡ work_of key t v
work_hidden key t v =
    entry_hidden key v (row_of t).entry_type (container_of (row_of t).container (hidden v))
    ∙ ap (entry_in key v (row_of t).entry_type) (title_hidden v (row_of t).container (row_other t))

faults_hidden : (key : List ℕ) (v : Values) → faults_of key (hidden v) ≡ faults_of key v
faults_hidden key v = refl

flat_faults_of : (e : Source) → faults_of e.key (values (without_field crossref e.fields)) ≡ faults_of e.key (values e.fields)
flat_faults_of e =
    sym (faults_hidden e.key (values (without_field crossref e.fields))) ∙ (ap (faults_of e.key) (hidden_same e.fields) ∙ faults_hidden e.key (values e.fields))

flat_work_of : (e : Source) → work_of e.key (written_type e.entry_type) (values (without_field crossref e.fields)) ≡ work_of e.key (written_type e.entry_type) (values e.fields)
flat_work_of e =
    let t = written_type e.entry_type in
    sym (work_hidden e.key t (values (without_field crossref e.fields))) ∙ (ap (work_of e.key t) (hidden_same e.fields) ∙ work_hidden e.key t (values e.fields))

pub flat_bridged : (e : Source) → bridged (flat_entry e) ≡ bridged e
flat_bridged e = λ i. unless_faulty (flat_faults_of e i) (flat_work_of e i)

abbrev faults_in : List Source → List Fault
faults_in es = flat_map (λ (e : Source). faults_of e.key (values e.fields)) es

abbrev works_of : List Source → List EntryData
works_of es = map (λ (e : Source). work_of e.key (written_type e.entry_type) (values e.fields)) es

flat_faults : (es : List Source) → all_faults (flat es) ≡ all_faults es
flat_faults [] = refl
flat_faults (e ∷ es) = by (flat_faults es) (not (is_xdata (written_type e.entry_type)))
  where
    by : all_faults (flat es) ≡ all_faults es → (b : Bool) → faults_in (cond b (flat_entry e ∷ works_in (flat es)) (works_in (flat es))) ≡ faults_in (cond b (e ∷ works_in es) (works_in es))
    by more true = λ i. flat_faults_of e i ++ more i
    by more false = more

flat_works : (es : List Source) → all_works (flat es) ≡ all_works es
flat_works [] = refl
flat_works (e ∷ es) = by (flat_works es) (not (is_xdata (written_type e.entry_type)))
  where
    by : all_works (flat es) ≡ all_works es → (b : Bool) → works_of (cond b (flat_entry e ∷ works_in (flat es)) (works_in (flat es))) ≡ works_of (cond b (e ∷ works_in es) (works_in es))
    by more true = λ i. flat_work_of e i ∷ more i
    by more false = more

pub flat_library : (es : List Source) → library_of (flat es) ≡ library_of es
flat_library es = λ i. unless_faulty (flat_faults es i) (put_after [] (flat_works es i))
