-- Addresses and serial numbers of the code as callers see them.
use Rattle.std.specs.Prelude.{ℕ, List, map, Option}
use Rattle.url.specs.Parts.{serialize}
use Rattle.laws.specs.Text.{characters}
use Rattle.literature_values.specs.declared.date.Date.{Date}
use Rattle.literature_values.specs.TypedViews.{ValueOrText, typed_view}
use Rattle.literature_values.specs.declared.qualified_url.QualifiedUrl.{QualifiedUrl}
use Rattle.literature_values.specs.declared.serial_number.SerialNumber.{SerialNumber}

-- an address in writing, or a text that is none, and the day of the last visit
pub record Address : Type 0 where
  pub value : ValueOrText (List ℕ)
  pub visit_date : Option Date

-- the address as it is written, and the day
abbrev pub address_view : QualifiedUrl → Address
address_view u = record { value = typed_view serialize u.value; visit_date = u.visit_date }

-- the numbers after the names of their schemes, in the order of the names
abbrev pub serial_numbers_view : SerialNumber → List (List ℕ × List ℕ)
serial_numbers_view s = map (λ p. (characters p.0, characters p.1)) s.0.entries
