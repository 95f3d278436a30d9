-- Entries that a catalog gives.
use Rattle.std.proofs.Common.{◌≡◌, ℕ, Bool, true, not, List, slice_get, Option, Some, None, option_map, Bor, refl, sym, ap, subst, ◌∙◌}
use Rattle.std.specs.Prelude.{IfSome, if◌then◌else◌}
use Rattle.std.proofs.lemmas.Bool.{or_left}
use Rattle.std.proofs.lemmas.Option.{slice_get-map, same_Some}
use Rattle.biblatex_entries.specs.Roles.{role_of}
use Rattle.biblatex_entries.specs.TypeNames.{TypeName}
use Rattle.biblatex_entries.specs.Entries.{Source, source_view}
use Rattle.biblatex_entries.specs.declared.entry.Entry.{Entry}
use Rattle.biblatex_inherited_fields.specs.Table.{is_among, is_xdata}
use Rattle.biblatex_inheritance.specs.Resolved.{Table}
use Rattle.biblatex_inheritance.specs.Solution.{NoneIsCircular}
use Rattle.biblatex_suppliers.specs.Asked.{asked, is_asked}
use Rattle.biblatex_suppliers.specs.Written.{written_view}
use Rattle.biblatex_suppliers.specs.Suppliers.{seen, IsMadeAs}
use Rattle.biblatex_suppliers.specs.declared.shared.Written.{Written}
use Rattle.biblatex_suppliers.specs.declared.supplier.Supplies.{Supplies}
use Rattle.biblatex_suppliers.proofs.WrittenEntries.{written_there, written_nowhere}
use Rattle.biblatex_meaning.specs.Listed.{references}
use Rattle.biblatex_meaning.specs.Resolved.{head, table_of, tables}
use Rattle.biblatex.specs.Bibliographies.{Indexed, listed_view}
use Rattle.biblatex.specs.Catalogs.{resolved_of, written_under, IsCatalog, IsEntryAs}
use Rattle.biblatex.specs.declared.indices.NamedIndex.{NamedIndex}
use Rattle.biblatex.proofs.CatalogsResolved.{are_resolved}

-- the entry at an index has the key and the type that are written
pub head_kept : (b : Indexed) (n : ℕ) → NoneIsCircular (references (listed_view b)) → option_map head (slice_get (resolved_of b).entries n) ≡ option_map head (slice_get b.entries n)
head_kept b n none =
    sym (slice_get-map head (resolved_of b).entries n) ∙ (ap (λ (hs : List (List ℕ × TypeName)). slice_get hs n) (are_resolved b none).heads ∙ slice_get-map head b.entries n)

-- an entry that is borrowed has a key and a type, which fields beside it leave as they are
pub head_of : (w : Written) (n : ℕ) (r : Option (Bor Entry)) → option_map (λ (e : Bor Entry). e.now) r ≡ slice_get w.entries.items n → option_map (λ (e : Bor Entry). head (source_view e.now)) r ≡ option_map head (slice_get (written_view w) n)
head_of w n None is = sym (ap (option_map head) (written_nowhere w n (sym is)))
head_of w n (Some e) is = sym (ap (option_map head) (written_there w n e.now (sym is)))

-- what is so of each value
pub if_some : {X : Type 0} (r : Option X) (P Q : X → Type 0) → ((x : X) → P x → Q x) → IfSome r P → IfSome r Q
if_some None P Q f h = tt
if_some (Some x) P Q f h = f x h

-- an entry that is made as it is seen, under some names
entry_as : (b : Indexed) (ss : List Supplies) (n : ℕ) (t : Table) (d : Source) (named : List ℕ → Bool) → IsCatalog b ss → IsMadeAs (slice_get b.entries n) t d → ((q : List ℕ) → named q ≡ true → t q ≡ seen b.entries ss n q)
    → IsEntryAs named (slice_get (resolved_of b).entries n) d
entry_as b ss n t d named catalog made same = by (slice_get b.entries n) (slice_get (resolved_of b).entries n) refl (head_kept b n catalog.acyclic) made (catalog.seen n)
  where
    by : (o r : Option Source) → slice_get (resolved_of b).entries n ≡ r → option_map head r ≡ option_map head o → IsMadeAs o t d
        → IfSome o (λ e. (q : List ℕ) → is_asked (role_of e.entry_type) q ≡ true → seen b.entries ss n q ≡ tables (resolved_of b).entries n q) → IsEntryAs named r d
    by None r at heads made agree = absurd made
    by (Some e) None at heads made agree = absurd cc
    by (Some e) (Some x) at heads made agree =
        let one : head x ≡ head e = same_Some (head x) (head e) heads in (
          (λ i. (made.0 i, made.1 i)) ∙ sym one,
          λ other q is.
              let asks = or_left (not (is_xdata (role_of e.entry_type))) (is_among asked q) (ap not (ap (λ (h : List ℕ × TypeName). is_xdata (role_of h.1)) (sym one) ∙ other)) in
              made.2 q ∙ (same q is ∙ (agree q asks ∙ ap (λ (y : Option Source). table_of y q) at)),
        )

-- the same of entries as they lie in memory
pub entry_made : (w : Written) (names : List NamedIndex) (supplies ss : List Supplies) (n : ℕ) (d : Source) → ss ≡ supplies → IsCatalog (written_under w names) supplies
    → IsMadeAs (slice_get (written_view w) n) (seen (written_view w) ss n) d → IsEntryAs (λ q. true) (slice_get (resolved_of (written_under w names)).entries n) d
entry_made w names supplies ss n d is_ss catalog made =
    entry_as (written_under w names) supplies n (seen (written_view w) supplies n) d (λ q. true) catalog
    (subst (λ (x : List Supplies). IsMadeAs (slice_get (written_view w) n) (seen (written_view w) x n) d) is_ss made) (λ q is. refl)

-- the same under names of a list
pub entry_named : (w : Written) (names : List NamedIndex) (supplies ss : List Supplies) (n : ℕ) (ns : List (List ℕ)) (d : Source) → ss ≡ supplies → IsCatalog (written_under w names) supplies
    → IsMadeAs (slice_get (written_view w) n) (λ q. if is_among ns q then seen (written_view w) ss n q else None) d → IsEntryAs (is_among ns) (slice_get (resolved_of (written_under w names)).entries n) d
entry_named w names supplies ss n ns d is_ss catalog made =
    entry_as (written_under w names) supplies n (λ q. if is_among ns q then seen (written_view w) supplies n q else None) d (is_among ns) catalog
    (subst (λ (x : List Supplies). IsMadeAs (slice_get (written_view w) n) (λ q. if is_among ns q then seen (written_view w) x n q else None) d) is_ss made)
    (λ q is. ap (λ (c : Bool). if c then seen (written_view w) supplies n q else None) is)
