-- What is seen of entries is what they resolve to.
use Rattle.std.specs.Prelude.{◌≡◌, ◌<◌, ℕ, true, List, length, slice_get, Option, Some, None, IfSome, if◌then◌else◌}
use Rattle.reference_graph.specs.References.{references_of, IsCircular}
use Rattle.biblatex_fields.specs.Fields.{value_named}
use Rattle.biblatex_entries.specs.declared.role.Role.{Role}
use Rattle.biblatex_entries.specs.Roles.{role_of}
use Rattle.biblatex_entries.specs.Entries.{Source}
use Rattle.biblatex_inheritance.specs.Resolved.{Table, Offer, first_offer, date_for, needs_date, first_fault, offers}
use Rattle.biblatex_inheritance.specs.Solution.{Solves, IsFirst, NoneIsCircular, fault_at}
use Rattle.biblatex_inheritance.specs.declared.error.ResolveError.{ResolveError}
use Rattle.biblatex_inheritance.specs.declared.error.ResolveError.TheVariants as errors
use Rattle.biblatex_suppliers.specs.Asked.{is_asked}
use Rattle.biblatex_suppliers.specs.Suppliers.{supplied_fields, seen}
use Rattle.biblatex_suppliers.specs.declared.supplier.Supplies.{Supplies}

-- What an entry of the role inherits whose references have this to offer: the fields for which it may be asked, the date, and the fault
-- of the first date that cannot be read.
pub record AreSupplied (es : List Source) (role : Role) (os : List Offer) (s : Supplies) : Type 0 where
  pub fields : (name : List ℕ) → is_asked role name ≡ true → value_named name (supplied_fields es s.suppliers.items) ≡ first_offer role os name
  pub date : s.dated.date ≡ date_for role os
  pub fault : s.dated.fault ≡ (if needs_date role then first_fault os else None)

-- the same of an entry, if there is one
abbrev pub AreSuppliedAt : List Source → List Offer → Option Source → Supplies → Type 0
AreSuppliedAt es os o s = IfSome o (λ e. AreSupplied es (role_of e.entry_type) os s)

-- what the entry of a number inherits is known, with its references as they are viewed
abbrev pub IsKnown : List Source → List (List ℕ) → (ℕ → Table) → List Supplies → ℕ → Type 0
IsKnown es references see ss i =
    IfSome (slice_get es i) (λ e. (s : Supplies) × (slice_get ss i ≡ Some s) × AreSupplied es (role_of e.entry_type) (offers es see (references_of references i)) s)

-- What each entry inherits is known, with its references as each solution has them.
pub record AreAllSupplied (es : List Source) (references : List (List ℕ)) (ss : List Supplies) : Type 0 where
  pub long : length ss ≡ length es
  pub known : (see : ℕ → Table) → Solves es references see → (i : ℕ) → i < length es → IsKnown es references see ss i

-- two views of the entry of a number have the same under each name for which it may be asked
abbrev pub Agree : List Source → (ℕ → Table) → (ℕ → Table) → ℕ → Type 0
Agree es see other i = IfSome (slice_get es i) (λ e. (name : List ℕ) → is_asked (role_of e.entry_type) name ≡ true → see i name ≡ other i name)

-- What is seen of each entry, by what it inherits, is what it resolves to: all fields of an entry that is no xdata entry, and of an xdata
-- entry those for which others ask.
abbrev pub IsSeen : List Source → (ℕ → Table) → List Supplies → Type 0
IsSeen es see ss = (i : ℕ) → Agree es (seen es ss) see i

-- Why entries are not resolved, as `IsRefusedAs` says, whichever solution there is.
abbrev pub IsRefusedBySolutions : List Source → List (List ℕ) → ResolveError → Type 0
IsRefusedBySolutions es references errors.Memory = Unit {0}
IsRefusedBySolutions es references (errors.ReferenceCycle n) = (n < length es) × IsCircular references n × ((k : ℕ) → k < n → IsCircular references k → ⊥)
IsRefusedBySolutions es references (errors.UnreadableDate f) = NoneIsCircular references × ((see : ℕ → Table) → Solves es references see → IsFirst (fault_at es references see) f)
