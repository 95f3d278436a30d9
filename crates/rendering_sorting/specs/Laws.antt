-- The law of keys.
use Rattle.std.specs.Prelude.{◌≡◌, Vec}
use Rattle.std.specs.declared.cmp.Ordering.{Ordering}
use Rattle.rendering_sorting.specs.Keys.{key_cmp}
use Rattle.rendering_sorting.specs.Views.{parts_view}
use Rattle.rendering_sorting.specs.declared.key.SortPart.{SortPart}

-- the keys of items are compared by the values in them
abbrev pub KeysCompareByTheirValues : {A : Type 0} → (Vec SortPart A → Vec SortPart A → Ordering)
    → Type 0
KeysCompareByTheirValues {A} cmp =
    (a b : Vec SortPart A) → cmp a b ≡ key_cmp (parts_view a) (parts_view b)
