-- Fields whose chunks are joined pass on such fields, and dates are such values.
use Rattle.std.proofs.Common.{◌≡◌, ℕ, ◌-◌, ◌<◌, ◌≤◌, Bool, true, false, List, [], ◌∷◌, ◌++◌, length, replicate, Option, Some, None, bytes_eq, codes, refl, length-append, arith}
use Rattle.std.specs.Prelude.{if◌then◌else◌, ◌||◌, unsigned_abs}
use Rattle.std.specs.Fmt.{decimal, sign_text}
use Rattle.std.specs.Int.{is_negative}
use Rattle.std.specs.List.{AllByRecursion}
use Rattle.std.proofs.lemmas.List.{length-replicate}
use Rattle.laws.specs.Characters.{digit_zero}
use Rattle.laws.specs.Text.{is_filled}
use Rattle.date_parts.specs.Written.{padded, year_text}
use Rattle.biblatex_dates.specs.Date.{date_without_time}
use Rattle.biblatex_dates.specs.Written.{datetime_text, month_text, sides_text, mark_text, end_text, date_text}
use Rattle.biblatex_dates.specs.declared.date.Date.{Date}
use Rattle.biblatex_dates.specs.declared.date.DateValue.{DateValue}
use Rattle.biblatex_dates.specs.declared.date.DateValue.TheVariants.{At, After, Before, Between}
use Rattle.biblatex_dates.specs.declared.datetime.Datetime.{Datetime}
use Rattle.biblatex_fields.specs.Fields.{IsJoined}
use Rattle.biblatex_fields.specs.Value.{Value}
use Rattle.biblatex_entries.specs.Entries.{Source}
use Rattle.biblatex_entries.specs.declared.role.Role.{Role}
use Rattle.biblatex_entries.specs.Roles.{role_of}
use Rattle.biblatex_inherited_fields.specs.Table.{inherits, source_name}
use Rattle.biblatex_inheritance.specs.Resolved.{Table, Offer, first, offered, first_offer, own, date_for, date_value, dated, undated, resolved}

-- no date is written as an empty text
padded_long : (width n : ℕ) → width ≤ length (padded width n)
padded_long width n = omega (arith, length-append (replicate (width - length (decimal n)) digit_zero) (decimal n), length-replicate {A = ℕ} (width - length (decimal n)) digit_zero)

datetime_long : (d : Datetime) → 0 < length (datetime_text d)
datetime_long d =
    let digits = padded_long 4 (unsigned_abs d.year) in
    let year = length-append (sign_text (is_negative d.year)) (padded 4 (unsigned_abs d.year)) in
    let whole = length-append (year_text d.year) (month_text d.month d.day d.time) in
    omega (arith, digits, year, whole)

after_long : (cs ds : List ℕ) → 0 < length ds → 0 < length (cs ++ ds)
after_long cs ds long = let whole = length-append cs ds in omega (arith, whole, long)

before_long : (cs ds : List ℕ) → 0 < length cs → 0 < length (cs ++ ds)
before_long cs ds long = let whole = length-append cs ds in omega (arith, whole, long)

sides_long : (v : DateValue) → 0 < length (sides_text v)
sides_long (At d) = datetime_long d
sides_long (After d) = datetime_long d
sides_long (Before d) = after_long (codes "../") (datetime_text d) (datetime_long d)
sides_long (Between c d) = before_long (datetime_text c) (codes "/" ++ datetime_text d) (datetime_long c)

filled : (cs : List ℕ) → 0 < length cs → is_filled cs ≡ true
filled [] long = absurd (omega (arith, long))
filled (c ∷ cs) long = refl

date_filled : (d : Date) → is_filled (date_text d) ≡ true
date_filled d = filled (date_text d) (before_long (sides_text d.value) (mark_text d.uncertain d.approximate ++ end_text d.value) (sides_long d.value))

-- tables in which each value is joined
abbrev pub IsJoinedTable : Table → Type 0
IsJoinedTable t = (name : List ℕ) → IsJoined (t name)

joined_first : (a b : Option Value) → IsJoined a → IsJoined b → IsJoined (first a b)
joined_first None b joined other = other
joined_first (Some v) b joined other = joined

joined_if : (c : Bool) (o : Option Value) → IsJoined o → IsJoined (if c then o else None)
joined_if true o joined = joined
joined_if false o joined = tt

joined_unless : (c : Bool) (o : Option Value) → IsJoined o → IsJoined (if c then None else o)
joined_unless true o joined = tt
joined_unless false o joined = joined

joined_offers : (to : Role) (os : List Offer) → AllByRecursion (λ o. IsJoinedTable o.fields) os → IsJoinedTable (first_offer to os)
joined_offers to [] all name = tt
joined_offers to (o ∷ os) all name =
    joined_first (offered to o.role o.fields name) (first_offer to os name) (joined_if (inherits to name) (o.fields (source_name to o.role name)) (all.0 (source_name to o.role name))) (joined_offers to os all.1 name)

joined_dated : (d : Option Date) (t : Table) → IsJoinedTable t → IsJoinedTable (dated d t)
joined_dated None t joined name = joined name
joined_dated (Some d) t joined name = by_date (bytes_eq name (codes "date"))
  where
    by_date : (b : Bool) → IsJoined (if b then Some (date_value d) else (if bytes_eq name (codes "year") || (bytes_eq name (codes "month") || bytes_eq name (codes "day")) then None else t name))
    by_date true = date_filled (date_without_time d)
    by_date false = joined_unless (bytes_eq name (codes "year") || (bytes_eq name (codes "month") || bytes_eq name (codes "day"))) (t name) (joined name)

-- the values that an entry resolves to are joined
pub joined_resolved : (e : Source) (os : List Offer) → IsJoinedTable (own e) → AllByRecursion (λ o. IsJoinedTable o.fields) os → IsJoinedTable (resolved e os)
joined_resolved e os joined all =
    joined_dated (date_for (role_of e.entry_type) os) (undated e os) (λ name. joined_first (own e name) (first_offer (role_of e.entry_type) os name) (joined name) (joined_offers (role_of e.entry_type) os all name))
