-- Keys of the code as plain data.
use Rattle.std.specs.Prelude.{List, map, Vec}
use Rattle.collation.specs.Views.{key_view as collation_view}
use Rattle.rendering_sorting.specs.Keys as keys
use Rattle.rendering_sorting.specs.declared.key.SortPart.{SortPart}
use Rattle.rendering_sorting.specs.declared.key.SortPart.TheVariants as parts
use Rattle.rendering_sorting.specs.declared.key.SortValue.{SortValue}
use Rattle.rendering_sorting.specs.declared.key.SortValue.TheVariants as values

-- the value of a key
abbrev pub value_view : SortValue → keys.Value
value_view (values.Numbers ns) = keys.numbers ns.items
value_view (values.Text k) = keys.text (collation_view k)

-- a value as it is sorted
abbrev pub part_view : SortPart → keys.Part
part_view (parts.Ascending v) = keys.ascending (value_view v)
part_view (parts.Descending v) = keys.descending (value_view v.0)
part_view parts.Absent = keys.absent

-- the keys of an item
abbrev pub parts_view : {A : Type 0} → Vec SortPart A → List keys.Part
parts_view v = map part_view v.items
