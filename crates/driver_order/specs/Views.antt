-- Values with their keys as plain data.
use Rattle.std.specs.Prelude.{List, Vec}
use Rattle.std.specs.Borrow.{Bor}
use Rattle.driver_requests.specs.Views.{Parts, parts_of}
use Rattle.driver_requests.specs.declared.item.CitationItem.{CitationItem}
use Rattle.rendering_sorting.specs.Keys.{Part}
use Rattle.rendering_sorting.specs.Views.{parts_view}
use Rattle.rendering_sorting.specs.declared.key.SortPart.{SortPart}
use Rattle.sorting.specs.declared.keyed.Keyed.{Keyed}

-- a borrowed value with its keys
abbrev pub keyed_view : {A T : Type 0} → Keyed (Vec SortPart A) (Bor T) → List Part × T
keyed_view k = (parts_view k.key, k.value.now)

-- an item with its keys
abbrev pub keyed_item_view : {A T P : Type 0} → Keyed (Vec SortPart A) (CitationItem T P)
    → List Part × Parts T P
keyed_item_view k = (parts_view k.key, parts_of k.value)
