-- Entries that are made, and those that need not be.
use Rattle.std.proofs.Common.{◌≡◌, ℕ, Bool, true, false, List, [], slice_get, Option, Some, None, string_bytes, bytes_eq, codes, refl, sym, ap, subst, ◌∙◌}
use Rattle.std.specs.Prelude.{if◌then◌else◌}
use Rattle.std.specs.Bool.{OnTrue}
use Rattle.std.proofs.lemmas.Slice.Eq.{bytes_eq-Decides}
use Rattle.biblatex_fields.specs.Fields.{Named, value_named}
use Rattle.biblatex_dates.specs.declared.date.Date.{Date}
use Rattle.biblatex_entries.specs.TypeNames.{type_name}
use Rattle.biblatex_entries.specs.Entries.{Source, source_view}
use Rattle.biblatex_entries.specs.declared.entry.Entry.{Entry}
use Rattle.biblatex_inherited_fields.specs.Offered.{Table, first}
use Rattle.biblatex_inheritance.specs.Resolved.{dated}
use Rattle.biblatex_inheritance.specs.Views.{IsTable}
use Rattle.biblatex_inheritance.proofs.ResolvedReferences.{first_none}
use Rattle.biblatex_suppliers.specs.Written.{written_view}
use Rattle.biblatex_suppliers.specs.Suppliers.{own_of, supplied_fields, undated_by, seen_by, written_of, IsMadeAs}
use Rattle.biblatex_suppliers.specs.declared.supplier.Supplied.{Supplied}
use Rattle.biblatex_suppliers.specs.declared.supplier.Supplies.{Supplies}
use Rattle.biblatex_suppliers.specs.declared.shared.Written.{Written}
use Rattle.biblatex_suppliers.proofs.WrittenEntries.{written_there}

-- what is so where a test is true
pub on_true : {P Q : Type 0} (b : Bool) → (P → Q) → OnTrue b P → OnTrue b Q
on_true true f h = f h
on_true false f h = tt

-- without `xdata` an entry's own fields are those that are written
own_written : (o : Option Source) (q : List ℕ) → written_of o (codes "xdata") ≡ None → own_of o q ≡ written_of o q
own_written None q none = refl
own_written (Some e) q none = by (bytes_eq q (codes "xdata")) refl
  where
    by : (b : Bool) → bytes_eq q (codes "xdata") ≡ b → (if b then None else value_named q e.fields) ≡ value_named q e.fields
    by true is = sym (ap (λ (n : List ℕ). value_named n e.fields) ((bytes_eq-Decides q (codes "xdata")).0 is) ∙ none)
    by false is = refl

-- what is seen of an entry that inherits nothing and has no `xdata`
pub seen_written : (es : List Source) (n : ℕ) (s : Supplies) (ss : List Supplied) (d : Option Date) (q : List ℕ) → s.suppliers.items ≡ ss → ss ≡ [] → s.dated.date ≡ d → d ≡ None → written_of (slice_get es n) (codes "xdata") ≡ None
    → seen_by es n (Some s) q ≡ written_of (slice_get es n) q
seen_written es n s ss d q same empty is none no_xdata =
    ap (λ (x : Option Date). dated x (undated_by es n s) q) (is ∙ none)
    ∙ (ap (λ (xs : List Supplied). first (own_of (slice_get es n) q) (value_named q (supplied_fields es xs))) (same ∙ empty)
    ∙ (first_none (own_of (slice_get es n) q) ∙ own_written (slice_get es n) q no_xdata))

-- an entry as it is written is made as the table of what is written
pub whole_made : (o : Option Source) (d : Source) (t : Table) → Some d ≡ o → ((q : List ℕ) → t q ≡ written_of o q) → IsMadeAs o t d
whole_made o d t is same = subst (λ (x : Option Source). ((q : List ℕ) → t q ≡ written_of x q) → IsMadeAs x t d) is (λ here. (refl, refl, λ q. sym (here q))) same

-- an entry of the key and the type of the one at an index, and of fields
pub made_there : (w : Written) (n : ℕ) (e d : Entry) (fields : List Named) (t : Table) → slice_get w.entries.items n ≡ Some e
    → source_view d ≡ record { key = string_bytes e.key; entry_type = type_name e.entry_type; fields = fields } → IsTable fields t → IsMadeAs (slice_get (written_view w) n) t (source_view d)
made_there w n e d fields t at is same =
    subst (λ (o : Option Source). IsMadeAs o t (source_view d)) (sym (written_there w n e at)) (ap (λ (x : Source). x.key) is, ap (λ (x : Source). x.entry_type) is, λ q. ap (λ (x : Source). value_named q x.fields) is ∙ same q)
