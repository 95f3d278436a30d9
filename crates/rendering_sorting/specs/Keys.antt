-- By what items are sorted, and how that compares.
use Rattle.std.specs.Prelude.{ℕ, ℤ, List, Option, Some, None}
use Rattle.std.specs.Cmp.Lexicographic.{slice_cmp}
use Rattle.std.specs.Ordering.{int_cmp}
use Rattle.std.specs.declared.cmp.Ordering.{Ordering}
use Rattle.std.specs.declared.cmp.Ordering.TheVariants.{Less, Equal, Greater}
use Rattle.collation.specs.Keys.{order_of}
use Rattle.rendering_taxonomy.specs.declared.style.SortDirection.{SortDirection}
use Rattle.rendering_taxonomy.specs.declared.style.SortDirection.TheVariants as directions

-- the value of a key: numbers, as those of a date, or the collation key of a text
pub data Value : Type 0 where
  numbers : List ℤ → Value
  text : List ℕ → Value

-- numbers are compared one after the other, and stand before texts
abbrev pub value_cmp : Value → Value → Ordering
value_cmp (numbers ms) (numbers ns) = slice_cmp int_cmp ms ns
value_cmp (numbers ms) (text cs) = Less
value_cmp (text bs) (numbers ns) = Greater
value_cmp (text bs) (text cs) = order_of bs cs

-- A value as it is sorted: in ascending or in descending order, or no value.
pub data Part : Type 0 where
  ascending : Value → Part
  descending : Value → Part
  absent : Part

-- a value in a direction
abbrev pub part_of : SortDirection → Option Value → Part
part_of d None = absent
part_of directions.Ascending (Some v) = ascending v
part_of directions.Descending (Some v) = descending v

-- what has no value is last, in both directions
abbrev pub part_cmp : Part → Part → Ordering
part_cmp (ascending v) (ascending w) = value_cmp v w
part_cmp (ascending v) (descending w) = Less
part_cmp (ascending v) absent = Less
part_cmp (descending v) (ascending w) = Greater
part_cmp (descending v) (descending w) = value_cmp w v
part_cmp (descending v) absent = Less
part_cmp absent (ascending w) = Greater
part_cmp absent (descending w) = Greater
part_cmp absent absent = Equal

-- the first key that differs decides
abbrev pub key_cmp : List Part → List Part → Ordering
key_cmp = slice_cmp part_cmp
