-- Where the values of fields stand that entries inherit, and what entries have by it.
use Rattle.std.specs.Prelude.{◌≡◌, ℕ, true, List, [], ◌∷◌, map, slice_get, Option, Some, None, if◌then◌else◌}
use Rattle.std.specs.Str.{bytes_eq}
use Rattle.biblatex_fields.specs.Fields.{Named, value_named}
use Rattle.biblatex_fields.specs.Value.{Value, field_value_view}
use Rattle.biblatex_entries.specs.declared.role.Role.{Role}
use Rattle.biblatex_entries.specs.Entries.{Source}
use Rattle.biblatex_inherited_fields.specs.Offered.{Table, first}
use Rattle.biblatex_inheritance.specs.Resolved.{own, date_value, dated}
use Rattle.biblatex_inheritance.specs.declared.error.DateFault.{DateFault}
use Rattle.biblatex_suppliers.specs.Asked.{is_asked}
use Rattle.biblatex_suppliers.specs.FieldNames.{field_name}
use Rattle.biblatex_suppliers.specs.declared.supplier.Supplier.{Supplier}
use Rattle.biblatex_suppliers.specs.declared.supplier.Supplier.TheVariants as suppliers
use Rattle.biblatex_suppliers.specs.declared.supplier.Supplied.{Supplied}
use Rattle.biblatex_suppliers.specs.declared.supplier.Supplies.{Supplies}

-- the fields of an entry as they are written, without xdata
abbrev pub own_of : Option Source → Table
own_of None name = None
own_of (Some e) name = own e name

-- a value; where there is none, one without a chunk
abbrev pub or_nothing : Option Value → Value
or_nothing None = field_value_view []
or_nothing (Some v) = v

-- the value that stands there: that of a field as it is written, or a date
abbrev pub supplied : List Source → Supplier → Value
supplied es (suppliers.Field n name) = or_nothing (own_of (slice_get es n) (field_name name))
supplied es (suppliers.Date d) = date_value d

-- the fields that an entry inherits, with their values
abbrev pub supplied_field : List Source → Supplied → Named
supplied_field es s = (field_name s.name, supplied es s.supplier)

abbrev pub supplied_fields : List Source → List Supplied → List Named
supplied_fields es ss = map (supplied_field es) ss

-- where the first field of a name stands
abbrev pub supplier_named : List ℕ → List Supplied → Option Supplier
supplier_named name [] = None
supplier_named name (s ∷ ss) = if bytes_eq name (field_name s.name) then Some s.supplier else supplier_named name ss

-- What the entry of a number has under a name, by what it inherits: its own field, or the one that it inherits; and its inherited date.
abbrev pub undated_by : List Source → ℕ → Supplies → Table
undated_by es n s name = first (own_of (slice_get es n) name) (value_named name (supplied_fields es s.suppliers.items))

abbrev pub seen_by : List Source → ℕ → Option Supplies → Table
seen_by es n None name = None
seen_by es n (Some s) name = dated s.dated.date (undated_by es n s) name

-- the same of each entry
abbrev pub seen : List Source → List Supplies → ℕ → Table
seen es ss n name = seen_by es n (slice_get ss n) name

-- the fields of an entry as they are written, with xdata
abbrev pub written_of : Option Source → Table
written_of None name = None
written_of (Some e) name = value_named name e.fields

-- an entry has the key and the type of this one, and what the table has under each name
abbrev pub IsMadeAs : Option Source → Table → Source → Type 0
IsMadeAs None t d = ⊥
IsMadeAs (Some e) t d = (d.key ≡ e.key) × (d.entry_type ≡ e.entry_type) × ((name : List ℕ) → value_named name d.fields ≡ t name)

-- what is lacking comes where it is offered, as far as an entry of the role may be asked for it
abbrev pub PassesOnAsked : Role → List Named → List Named → Table → Type 0
PassesOnAsked role old new offers = (name : List ℕ) → is_asked role name ≡ true → value_named name new ≡ first (value_named name old) (offers name)

-- the fault of the first date that an entry would inherit and that cannot be read
abbrev pub fault_of : Option Supplies → Option DateFault
fault_of None = None
fault_of (Some s) = s.dated.fault
