-- What the code has and passes on.
use Rattle.std.specs.Global.{Global}
use Rattle.std.specs.Prelude.{◌≡◌, ℕ, List, [], ◌∷◌, slice_get, map, Option, Some, None, String, string_bytes, Vec}
use Rattle.std.specs.List.{flat_map}
use Rattle.std.specs.Borrow.{Bor}
use Rattle.biblatex_text.specs.declared.spanned.Spanned.{Spanned}
use Rattle.biblatex_content.specs.declared.chunk.Chunk.{Chunk}
use Rattle.biblatex_fields.specs.Fields.{Named, value_named}
use Rattle.biblatex_fields.specs.Value.{field_value_view}
use Rattle.biblatex_entries.specs.TypeNames.{type_name}
use Rattle.biblatex_entries.specs.Roles.{role_of}
use Rattle.biblatex_entries.specs.declared.entry.Entry.{Entry}
pub use Rattle.biblatex_inherited_fields.specs.Views.{table_view, PassesOn}
use Rattle.biblatex_inheritance.specs.Resolved.{Table, Offer, last_date, first_fault}
use Rattle.biblatex_dates.specs.declared.date.Date.{Date}
use Rattle.biblatex_inheritance.specs.declared.dated.Dated.{Dated}

-- what the entry of a number has to offer
abbrev pub offer : ℕ → Entry → Offer
offer n e = record { number = n; role = role_of (type_name e.entry_type); fields = table_view e.fields }

-- what references have to offer, as the entries stand
abbrev pub offer_in : ℕ → Option Entry → List Offer
offer_in n None = []
offer_in n (Some e) = offer n e ∷ []

abbrev pub offer_borrowed : ℕ → Option (Bor Entry) → List Offer
offer_borrowed n None = []
offer_borrowed n (Some e) = offer n e.now ∷ []

abbrev pub offers_in : List Entry → List ℕ → List Offer
offers_in es rs = flat_map (λ r. offer_in r (slice_get es r)) rs

-- what was read of references so far
abbrev pub IsDated : Dated → Option Date → List Offer → Type 0
IsDated d so_far rs = (d.date ≡ last_date so_far rs) × (d.fault ≡ first_fault rs)

-- the fields are those of the table
abbrev pub IsTable : List Named → Table → Type 0
IsTable fs t = (name : List ℕ) → value_named name fs ≡ t name
