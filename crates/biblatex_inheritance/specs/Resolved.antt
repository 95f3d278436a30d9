-- What an entry is once its references are resolved. Fields are viewed as what stands under each name. What is inherited stands where it
-- is written: the spans of its chunks are those that they have in the reference.
use Rattle.std.specs.Prelude.{ℕ, ◌^◌, ◌-◌, Bool, true, false, List, [], ◌∷◌, slice_get, if◌then◌else◌, ◌||◌, Option, Some, None, Result, Ok, Err, codes}
use Rattle.std.specs.List.{flat_map}
use Rattle.std.specs.Str.{bytes_eq}
use Rattle.laws.specs.Text.{is_filled}
use Rattle.biblatex_content.specs.declared.chunk.Kind.TheVariants.{Normal}
use Rattle.biblatex_content.specs.Styled.{letters, plain}
use Rattle.biblatex_fields.specs.Fields.{value_named}
use Rattle.biblatex_fields.specs.Value.{Value}
use Rattle.biblatex_entries.specs.declared.role.Role.{Role}
use Rattle.biblatex_entries.specs.declared.role.Role.TheVariants.{XData, Set}
use Rattle.biblatex_entries.specs.Roles.{role_of}
use Rattle.biblatex_entries.specs.Entries.{Source}
use Rattle.biblatex_dates.specs.Date.{date_without_time}
use Rattle.biblatex_dates.specs.Parts.{of_parts}
use Rattle.biblatex_dates.specs.Shape.{shape_of, date_of}
use Rattle.biblatex_dates.specs.Written.{date_text}
use Rattle.biblatex_dates.specs.declared.date.Date.{Date}
use Rattle.biblatex_dates.specs.declared.error.TypeErrorKind.{TypeErrorKind}
use Rattle.biblatex_inheritance.specs.declared.error.DateFault.{DateFault}
pub use Rattle.biblatex_inherited_fields.specs.Offered.{Table, first, offered}

-- what a reference has to offer: the entry of a number, by its role and its fields
pub record Offer : Type 0 where
  pub number : ℕ
  pub role : Role
  pub fields : Table

abbrev pub first_offer : Role → List Offer → Table
first_offer to [] name = None
first_offer to (r ∷ rs) name = first (offered to r.role r.fields name) (first_offer to rs name)

-- an entry's own fields, without xdata
abbrev pub without_xdata : Table → Table
without_xdata fields name = if bytes_eq name (codes "xdata") then None else fields name

abbrev pub own : Source → Table
own e = without_xdata (λ name. value_named name e.fields)

-- The date in fields: that of `date`, unless it is missing or empty; else that of `year`, `month` and `day`, where a missing
-- field reads as an empty one.
abbrev pub plain_in : Option Value → List ℕ
plain_in None = []
plain_in (Some v) = plain v.text

abbrev pub characters_at : Table → List ℕ → List ℕ
characters_at fields name = plain_in (fields name)

abbrev pub by_parts : Table → Option Date
by_parts fields = of_parts (characters_at fields (codes "year")) (Some (characters_at fields (codes "month"))) (Some (characters_at fields (codes "day")))

abbrev pub some_date : Result Date TypeErrorKind → Result (Option Date) TypeErrorKind
some_date (Ok d) = Ok (Some d)
some_date (Err e) = Err e

abbrev pub of_date : List ℕ → Table → Result (Option Date) TypeErrorKind
of_date [] fields = Ok (by_parts fields)
of_date (c ∷ cs) fields = some_date (date_of (shape_of (c ∷ cs)))

abbrev pub date_in : Table → Result (Option Date) TypeErrorKind
date_in fields = of_date (characters_at fields (codes "date")) fields

-- the last date that can be read in a reference, and the first that cannot
abbrev pub readable : Result (Option Date) TypeErrorKind → Option Date
readable (Ok d) = d
readable (Err e) = None

abbrev pub fault : ℕ → Result (Option Date) TypeErrorKind → Option DateFault
fault reference (Ok d) = None
fault reference (Err e) = Some (record { reference = reference; kind = e })

abbrev pub later : Option Date → Option Date → Option Date
later a None = a
later a (Some d) = Some d

abbrev pub last_date : Option Date → List Offer → Option Date
last_date so_far [] = so_far
last_date so_far (r ∷ rs) = last_date (later so_far (readable (date_in r.fields))) rs

abbrev pub earlier : Option DateFault → Option DateFault → Option DateFault
earlier None b = b
earlier (Some f) b = Some f

abbrev pub first_fault : List Offer → Option DateFault
first_fault [] = None
first_fault (r ∷ rs) = earlier (fault r.number (date_in r.fields)) (first_fault rs)

-- all but sets and xdata entries need a date
abbrev pub needs_date : Role → Bool
needs_date XData = false
needs_date Set = false
needs_date _ = true

-- a value of one text, which stands in no source
abbrev pub text_value : List ℕ → Value
text_value cs = record { text = letters Normal cs; spans = (2 ^ 64 - 1, 2 ^ 64 - 1) ∷ []; is_joined = is_filled cs }

-- a date, without its time, as a value
abbrev pub date_value : Date → Value
date_value d = text_value (date_text (date_without_time d))

-- a date that is inherited replaces the entry's own date, year, month and day
abbrev pub with_date : Date → Table → Table
with_date d fields name =
    if bytes_eq name (codes "date") then Some (date_value d)
    else (if bytes_eq name (codes "year") || (bytes_eq name (codes "month") || bytes_eq name (codes "day")) then None else fields name)

abbrev pub dated : Option Date → Table → Table
dated None fields = fields
dated (Some d) fields = with_date d fields

abbrev pub date_for : Role → List Offer → Option Date
date_for to rs = if needs_date to then last_date None rs else None

-- The resolved fields of an entry: its own without xdata; each that it inherits and lacks from the first reference that
-- offers it; and the last date of a reference.
abbrev pub undated : Source → List Offer → Table
undated e rs name = first (own e name) (first_offer (role_of e.entry_type) rs name)

abbrev pub resolved : Source → List Offer → Table
resolved e rs = dated (date_for (role_of e.entry_type) rs) (undated e rs)

-- the fault of an entry that needs a date: that of its first reference whose date cannot be read
abbrev pub date_fault : Source → List Offer → Option DateFault
date_fault e rs = if needs_date (role_of e.entry_type) then first_fault rs else None

-- What references have to offer, as `see` sees the fields of each entry. A number that is no entry's offers nothing.
abbrev pub offer_if : ℕ → Option Source → Table → List Offer
offer_if n None fields = []
offer_if n (Some e) fields = record { number = n; role = role_of e.entry_type; fields = fields } ∷ []

abbrev pub offers : List Source → (ℕ → Table) → List ℕ → List Offer
offers es see rs = flat_map (λ r. offer_if r (slice_get es r) (see r)) rs
