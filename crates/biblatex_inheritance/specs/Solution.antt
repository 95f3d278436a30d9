-- Resolved entries as the one solution of an equation.
use Rattle.std.specs.Prelude.{◌≡◌, ◌<◌, ℕ, List, length, slice_get, get_or, set, Option, Some, None, IfSome, string_bytes}
use Rattle.reference_graph.specs.References.{references_of, IsCircular}
use Rattle.biblatex_fields.specs.Fields.{value_named, AreInOrder}
use Rattle.biblatex_entries.specs.TypeNames.{type_name}
use Rattle.biblatex_entries.specs.Entries.{Source, source_view, sources_view, HaveJoinedFields}
use Rattle.biblatex_entries.specs.declared.entry.Entry.{Entry}
use Rattle.biblatex_inheritance.specs.declared.error.DateFault.{DateFault}
use Rattle.biblatex_inheritance.specs.declared.error.ResolveError.{ResolveError}
use Rattle.biblatex_inheritance.specs.declared.error.ResolveError.TheVariants as errors
use Rattle.biblatex_inheritance.specs.Resolved.{Table, Offer, resolved, date_fault, offers}
use Rattle.biblatex_inheritance.specs.Views.{IsTable}

-- the fields of each entry are what it resolves to, with its references as they are viewed
abbrev pub Solves : List Source → List (List ℕ) → (ℕ → Table) → Type 0
Solves es references see = (i : ℕ) → IfSome (slice_get es i) (λ e. (name : List ℕ) → see i name ≡ resolved e (offers es see (references_of references i)) name)

-- the entry is what another one resolves to
abbrev pub IsResolved : Entry → Entry → List Offer → Type 0
IsResolved e d os =
    (string_bytes d.key ≡ string_bytes e.key) × (type_name d.entry_type ≡ type_name e.entry_type) × IsTable d.fields (resolved (source_view e) os) × AreInOrder d.fields

-- one entry was resolved, and its fault is that of its references
abbrev pub IsResolvedAt : List Entry → List Entry → ℕ → List Offer → Option DateFault → Type 0
IsResolvedAt old new i os fault = (d : Entry) × (new ≡ set old i d) × IsResolved (get_or old i d) d os × (fault ≡ date_fault (source_view (get_or old i d)) os)

-- the fields of each entry, as the entries stand
abbrev pub entry_table_view : Option Entry → Table
entry_table_view None name = None
entry_table_view (Some e) name = value_named name e.fields

abbrev pub tables_view : List Entry → ℕ → Table
tables_view es i = entry_table_view (slice_get es i)

-- an entry keeps its key and type
abbrev pub HasSameHead : Option Entry → Option Entry → Type 0
HasSameHead None None = Unit {0}
HasSameHead (Some e) (Some d) = (string_bytes d.key ≡ string_bytes e.key) × (type_name d.entry_type ≡ type_name e.entry_type)
HasSameHead None (Some d) = ⊥
HasSameHead (Some e) None = ⊥

abbrev pub HaveSameHeads : List Entry → List Entry → Type 0
HaveSameHeads old new = (i : ℕ) → HasSameHead (slice_get old i) (slice_get new i)

-- the fault of an entry: its first reference whose date cannot be read, where it needs a date
abbrev pub fault_in : Option Source → List Offer → Option DateFault
fault_in None os = None
fault_in (Some e) os = date_fault e os

abbrev pub fault_at : List Source → List (List ℕ) → (ℕ → Table) → ℕ → Option DateFault
fault_at es references see i = fault_in (slice_get es i) (offers es see (references_of references i))

-- the fields of each entry stand in the order of their names
abbrev pub AreOrdered : List Entry → Type 0
AreOrdered es = (i : ℕ) → IfSome (slice_get es i) (λ e. AreInOrder e.fields)

-- all entries were resolved, and what their faults are
pub record AreResolved (old new : List Entry) (references : List (List ℕ)) (faults : List (Option DateFault)) : Type 0 where
  pub heads : HaveSameHeads old new
  pub solved : Solves (sources_view old) references (tables_view new)
  pub faulted : (i : ℕ) → i < length old → slice_get faults i ≡ Some (fault_at (sources_view old) references (tables_view new) i)
  pub long : length faults ≡ length old
  pub ordered : AreOrdered new
  pub joined : HaveJoinedFields (sources_view old) → HaveJoinedFields (sources_view new)

-- the fault of the first entry that has one, of faults in a list
abbrev pub IsFirstFault : List (Option DateFault) → DateFault → Type 0
IsFirstFault faults f = (i : ℕ) × (slice_get faults i ≡ Some (Some f)) × ((k : ℕ) → k < i → slice_get faults k ≡ Some None)

-- the same, of the fault of each entry
abbrev pub IsFirst : (ℕ → Option DateFault) → DateFault → Type 0
IsFirst faults f = (i : ℕ) × (faults i ≡ Some f) × ((k : ℕ) → k < i → faults k ≡ None)

-- no entry reaches itself
abbrev pub NoneIsCircular : List (List ℕ) → Type 0
NoneIsCircular references = (i : ℕ) → IsCircular references i → ⊥

-- any other solution agrees
abbrev pub IsOnly : List Source → List (List ℕ) → (ℕ → Table) → Type 0
IsOnly es references see = (other : ℕ → Table) → Solves es references other → (i : ℕ) → i < length es → (name : List ℕ) → see i name ≡ other i name

-- Why entries are not resolved: one of them is the first that reaches itself; or none does, and this is the fault of the first that
-- has one, with its references as the one solution sees them; nothing is promised where memory ran out.
abbrev pub IsRefusedAs : List Source → List (List ℕ) → ResolveError → Type 0
IsRefusedAs es references errors.Memory = Unit {0}
IsRefusedAs es references (errors.ReferenceCycle n) = (n < length es) × IsCircular references n × ((k : ℕ) → k < n → IsCircular references k → ⊥)
IsRefusedAs es references (errors.UnreadableDate f) = NoneIsCircular references × ((see : ℕ → Table) × Solves es references see × IsOnly es references see × IsFirst (fault_at es references see) f)
