-- What the sides of a range share, and the parts of a date that each of them prints.
use Rattle.std.specs.Prelude.{Bool, true, false, not, ◌&&◌, ◌==◌, List, [], ◌∷◌, reverse, if◌then◌else◌, is_some}
use Rattle.std.specs.Bool.{beq}
use Rattle.std.specs.Option.{option_eq}
use Rattle.std.specs.Ordering.{int_eq}
use Rattle.literature_values.specs.declared.date.Date.{Date}
use Rattle.rendering_locale.specs.Locales.{DatePart}
use Rattle.rendering_taxonomy.specs.declared.date.DatePartForm.{DatePartForm}
use Rattle.rendering_taxonomy.specs.declared.date.DatePartForm.TheVariants as parts

-- whether two dates are of one year
abbrev pub is_same_year : Date → Date → Bool
is_same_year first last = int_eq first.year last.year

-- whether they are of one month, whatever their years are, or both of none
abbrev pub is_same_month : Date → Date → Bool
is_same_month first last = option_eq (λ m n. m == n) first.month last.month

-- whether one year stands for both: they are of it, and both have a month or neither has
abbrev pub share_year : Date → Date → Bool
share_year d other = is_same_year d other && beq (is_some d.month) (is_some other.month)

-- whether one month does
abbrev pub share_month : Date → Date → Bool
share_month d other =
    share_year d other && is_same_month d other && beq (is_some d.day) (is_some other.day)

-- whether one part does; a day stands for one date
abbrev pub share : Date → Date → DatePartForm → Bool
share d other (parts.Year form) = share_year d other
share d other (parts.Month form) = share_month d other
share d other (parts.Day form) = false

-- whether a date has a part
abbrev pub has_part : Date → DatePartForm → Bool
has_part d (parts.Year form) = true
has_part d (parts.Month form) = is_some d.month
has_part d (parts.Day form) = is_some d.day

-- whether a side of a range has a part that it does not share with the other side
abbrev pub is_apart : Date → Date → DatePartForm → Bool
is_apart d other form = has_part d form && not (share d other form)

-- from the first that passes a test on, with that one changed
abbrev pub from_first : {X : Type 0} → (X → Bool) → (X → X) → List X → List X
from_first test change [] = []
from_first test change (x ∷ xs) = if test x then change x ∷ xs else from_first test change xs

-- a part without what stands before it
abbrev pub without_prefix : DatePart → DatePart
without_prefix p = record p { prefix = [] }

-- a part without what stands after it
abbrev pub without_suffix : DatePart → DatePart
without_suffix p = record p { suffix = [] }

-- what the first side of a range prints of the parts: those up to its last that is not shared, which has no suffix
abbrev pub first_parts : Date → Date → List DatePart → List DatePart
first_parts first last ps =
    reverse (from_first (λ p. is_apart first last p.form) without_suffix (reverse ps))

-- what the last side prints of them: those from its first that is not shared on, which has no prefix
abbrev pub last_parts : Date → Date → List DatePart → List DatePart
last_parts first last ps = from_first (λ p. is_apart last first p.form) without_prefix ps
