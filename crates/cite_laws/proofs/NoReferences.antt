-- Entries without references are as they stand, once references are resolved.
use Rattle.std.proofs.Common.{◌≡◌, ℕ, zero, suc, arith, Bool, true, false, cond, List, [], ◌∷◌, ◌++◌, drop, get_or, length, map, slice_get, Option, Some, None, codes, refl, sym, ap, ◌∙◌}
use Rattle.std.specs.Prelude.{IfSome, filter_map, option_and_then, if◌then◌else◌}
use Rattle.std.specs.List.{AllByRecursion}
use Rattle.std.specs.Map.{lookup}
use Rattle.std.specs.Option.{option_map, option_or}
use Rattle.std.specs.Str.{bytes_eq}
use Rattle.std.proofs.lemmas.Option.{none-some}
use Rattle.std.proofs.lemmas.Slice.Eq.{bytes_eq-Decides}
use Rattle.biblatex_dates.specs.declared.date.Date.{Date}
use Rattle.biblatex_fields.specs.Fields.{Named, value_named, without_field}
use Rattle.biblatex_fields.specs.Value.{Value}
use Rattle.biblatex_entries.specs.Entries.{Source, field_text, parents_of, text_in}
use Rattle.biblatex_entries.specs.Names.{listed, trimmed}
use Rattle.biblatex_entries.specs.Roles.{role_of}
use Rattle.biblatex_entries.specs.TypeNames.{written_type}
use Rattle.biblatex_inheritance.specs.Resolved.{dated, last_date, needs_date, offers, own, resolved, undated}
use Rattle.biblatex_writing.specs.FieldNames.{is_never_written, other_names}
use Rattle.biblatex_writing.specs.Flat.{flat, flat_entry}
use Rattle.biblatex.specs.Listed.{Listed, references}
use Rattle.biblatex.specs.Resolved.{IsResolved, head, tables}
use Rattle.biblatex_reading_back.proofs.EntriesBack.{nothing_listed, nothing_trimmed}
use Rattle.reference_graph.specs.References.{references_of}
use Rattle.interop_values.specs.Values.{filled, values}
use Rattle.interop.specs.Library.{AreAlike, IsAlike}
use Rattle.cite_laws.specs.WrittenOut.{HasNoReferences}
use Rattle.cite_laws.proofs.NamesStay.{first_alone}

-- such an entry refers to nothing
parents_none : (e : Source) → HasNoReferences e → parents_of e.fields ≡ []
parents_none e h =
    ap (λ (v : Option Value). trimmed (text_in (option_map (λ x. x.text) v)) ++ listed (field_text (codes "xdata") e.fields)) h.0
    ∙ ap (λ (v : Option Value). trimmed [] ++ listed (text_in (option_map (λ x. x.text) v))) h.1
    ∙ (λ i. nothing_trimmed i ++ nothing_listed i)

none_referred : (index : List ℕ → Option ℕ) (es : List Source) → AllByRecursion HasNoReferences es → (i : ℕ) → references_of (map (λ e. filter_map index (parents_of e.fields)) es) i ≡ []
none_referred index [] none i = refl
none_referred index (e ∷ es) none zero = ap (filter_map index) (parents_none e none.0)
none_referred index (e ∷ es) none (suc i) = none_referred index es none.1 i

no_date : (b : Bool) → (if b then last_date None [] else None) ≡ None
no_date true = refl
no_date false = refl

-- and resolves to its own fields
stands : (e : Source) → HasNoReferences e → (name : List ℕ) → resolved e [] name ≡ value_named name e.fields
stands e h name =
    ap (λ (o : Option Date). dated o (undated e []) name) (no_date (needs_date (role_of e.entry_type)))
    ∙ first_alone (own e name)
    ∙ by (bytes_eq name (codes "xdata")) refl
  where
    by : (b : Bool) → bytes_eq name (codes "xdata") ≡ b → (if b then None else value_named name e.fields) ≡ value_named name e.fields
    by true is = sym (ap (λ (n : List ℕ). value_named n e.fields) ((bytes_eq-Decides name (codes "xdata")).0 is) ∙ h.1)
    by false is = refl

-- what holds of all holds at each index
at_each : (P : Source → Type 0) (es : List Source) → AllByRecursion P es → (i : ℕ) → IfSome (slice_get es i) P
at_each P [] all i = tt
at_each P (e ∷ es) all zero = all.0
at_each P (e ∷ es) all (suc i) = at_each P es all.1 i

-- each entry has the fields of the one at its index
abbrev pub HaveTheFieldsOf : List Source → List Source → Type 0
HaveTheFieldsOf read entries = (i : ℕ) → IfSome (slice_get read i) (λ e. (name : List ℕ) → tables entries i name ≡ value_named name e.fields)

pub fields_stand : (read file : Listed) → IsResolved read file → AllByRecursion HasNoReferences read.entries → HaveTheFieldsOf read.entries file.entries
fields_stand read file h none i = by (slice_get read.entries i) (h.equation i) (at_each HasNoReferences read.entries none i)
  where
    by : (o : Option Source)
        → IfSome o (λ e. (name : List ℕ) → tables file.entries i name ≡ resolved e (offers read.entries (tables file.entries) (references_of (references read) i)) name)
        → IfSome o HasNoReferences → IfSome o (λ e. (name : List ℕ) → tables file.entries i name ≡ value_named name e.fields)
    by None solved alone = tt
    by (Some e) solved alone = λ name.
        solved name
        ∙ ap (λ (rs : List ℕ). resolved e (offers read.entries (tables file.entries) rs) name) (none_referred read.index read.entries none i)
        ∙ stands e alone name

-- without a field that is not there
without_none : (name : List ℕ) (fs : List Named) → value_named name fs ≡ None → without_field name fs ≡ fs
without_none name [] none = refl
without_none name (f ∷ fs) none = by (bytes_eq name f.0) none (without_none name fs)
  where
    by : (b : Bool) → cond b (Some f.1) (value_named name fs) ≡ None → (value_named name fs ≡ None → without_field name fs ≡ fs)
        → cond b fs (f ∷ without_field name fs) ≡ f ∷ fs
    by true is more = absurd (none-some f.1 (sym is))
    by false is more = ap (λ (gs : List Named). f ∷ gs) (more is)

-- the same fields have the same contents under written names
values_stand : (fs gs : List Named) → ((name : List ℕ) → value_named name fs ≡ value_named name gs) → (name : List ℕ) → values fs name ≡ values gs name
values_stand fs gs same name =
    λ i. if is_never_written name then None
    else option_or (filled (option_map (λ v. v.text) (same name i))) (option_and_then (λ other. filled (option_map (λ v. v.text) (same other i))) (lookup (bytes_eq name) other_names))

entry_stands : (e d : Source) → head d ≡ head e → ((name : List ℕ) → value_named name d.fields ≡ value_named name e.fields) → HasNoReferences e → IsAlike e (flat_entry d)
entry_stands e d heads same none = record {
  key = λ i. (sym heads i).0;
  entry_type = λ i. written_type (sym heads i).1;
  values = λ name.
      values_stand e.fields d.fields (λ q. sym (same q)) name
      ∙ ap (λ (fs : List Named). values fs name) (sym (without_none (codes "crossref") d.fields (same (codes "crossref") ∙ none.0)));
}

-- entries without references are alike before references are resolved and after
pub entries_stand : (read entries : List Source) → map head entries ≡ map head read → HaveTheFieldsOf read entries → AllByRecursion HasNoReferences read → AreAlike read (flat entries)
entries_stand [] [] heads same none = tt
entries_stand [] (d ∷ ds) heads same none = absurd (let e : suc (length (map head ds)) ≡ 0 = ap length heads in omega (arith, e))
entries_stand (e ∷ es) [] heads same none = absurd (let f : 0 ≡ suc (length (map head es)) = ap length heads in omega (arith, f))
entries_stand (e ∷ es) (d ∷ ds) heads same none = (
  entry_stands e d (λ i. get_or (heads i) 0 (head d)) (same 0) none.0,
  entries_stand es ds (ap (drop 1) heads) (λ n. same (suc n)) none.1,
)

one_through : (x y z : Source) → IsAlike x y → IsAlike y z → IsAlike x z
one_through x y z h g = record { key = h.key ∙ g.key; entry_type = h.entry_type ∙ g.entry_type; values = λ name. h.values name ∙ g.values name }

pub alike_through : (xs ys zs : List Source) → AreAlike xs ys → AreAlike ys zs → AreAlike xs zs
alike_through [] [] [] h g = tt
alike_through [] [] (z ∷ zs) h g = absurd g
alike_through [] (y ∷ ys) zs h g = absurd h
alike_through (x ∷ xs) [] zs h g = absurd h
alike_through (x ∷ xs) (y ∷ ys) [] h g = absurd g
alike_through (x ∷ xs) (y ∷ ys) (z ∷ zs) h g = (one_through x y z h.0 g.0, alike_through xs ys zs h.1 g.1)
