-- Laws of sorted lists.
use Rattle.std.specs.Prelude.{◌≡◌, List, IsPermutation, IsSorted}
use Rattle.std.specs.List.Sorted.{IsStable}
use Rattle.std.specs.declared.cmp.Ordering.{Ordering}
use Rattle.sorting.specs.Sorted.{sorted}

-- a sorted list has the elements of the list
abbrev pub SortedIsPermutation : {X : Type 0} → (X → X → Ordering) → Type 0
SortedIsPermutation {X} cmp = (xs : List X) → IsPermutation xs (sorted cmp xs)

-- no element of it is less than the one before it
abbrev pub SortedIsSorted : {X : Type 0} → (X → X → Ordering) → Type 0
SortedIsSorted {X} cmp = (xs : List X) → IsSorted cmp (sorted cmp xs)

-- elements that compare as equal stand in it as they do in the list
abbrev pub SortedIsStable : {X : Type 0} → (X → X → Ordering) → Type 0
SortedIsStable {X} cmp = (xs : List X) → IsStable cmp xs (sorted cmp xs)

-- what is sorted and stable is the sorted list
abbrev pub StableSortsAreOne : {X : Type 0} → (X → X → Ordering) → Type 0
StableSortsAreOne {X} cmp = (xs ys : List X) → IsSorted cmp ys → IsStable cmp xs ys → ys ≡ sorted cmp xs
