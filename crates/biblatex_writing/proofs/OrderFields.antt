-- The fields of an entry in the order of written names.
use Rattle.std.proofs.Common.{◌≡◌, ℕ, Bool, true, false, cond, List, [], ◌∷◌, ◌++◌, Less, nat_cmp, refl, sym, ap, ◌∙◌}
use Rattle.std.specs.Cmp.Lexicographic.{slice_cmp}
use Rattle.std.specs.List.{AllByRecursion}
use Rattle.std.specs.List.Sorted.{IsStrictlySortedBy}
use Rattle.std.specs.Map.{keys_of}
use Rattle.std.specs.Ordering.{is_lt}
use Rattle.biblatex_fields.specs.Fields.{Named, AreInOrder}
use Rattle.biblatex_writing.specs.FieldNames.{is_never_written, other_names, written_name}
use Rattle.biblatex_writing.specs.Written.{is_less, placed, in_written_order}
use Rattle.biblatex_writing.specs.Order.{Row, rows_before, rows_after, moved, merged}
use Rattle.biblatex_writing.proofs.NamesWritten.{own_name}
use Rattle.biblatex_writing.proofs.OrderRows.{IsTable}
use Rattle.biblatex_writing.proofs.OrderMerged.{IsBelow, IsRising, Stay, merge, place, order, order_merged}

below : (name : List ℕ) (fs : List Named) → AllByRecursion (λ y. slice_cmp nat_cmp name y ≡ Less) (keys_of fs) → IsBelow name fs
below name [] all = tt
below name (f ∷ fs) all = (ap is_lt all.0, below name fs all.1)

rising : (fs : List Named) → AreInOrder fs → IsRising fs
unfolding IsStrictlySortedBy
rising [] sorted = tt
rising (f ∷ fs) sorted = (below f.0 fs sorted.0, rising fs sorted.1)

stay : (fs : List Named) → Stay is_never_written written_name fs
stay [] = tt
stay (f ∷ fs) = (own_name f.0, stay fs)

table : IsTable written_name other_names
table = (
  refl,
  ((refl, refl, refl), ((refl, refl, refl), ((refl, refl, refl), ((refl, refl, refl), ((refl, refl, refl), ((refl, refl, refl), ((refl, refl, refl), tt))))))),
  (
    refl,
    ((refl, refl, refl), ((refl, refl, refl), ((refl, refl, refl), ((refl, refl, refl), ((refl, refl, refl), ((refl, refl, refl), tt)))))),
    (
      refl,
      ((refl, refl, refl), ((refl, refl, refl), ((refl, refl, refl), ((refl, refl, refl), ((refl, refl, refl), tt))))),
      (
        refl,
        ((refl, refl, refl), ((refl, refl, refl), ((refl, refl, refl), ((refl, refl, refl), tt)))),
        (
          refl,
          ((refl, refl, refl), ((refl, refl, refl), ((refl, refl, refl), tt))),
          (
            refl,
            ((refl, refl, refl), ((refl, refl, refl), tt)),
            (
              refl,
              ((refl, refl, refl), tt),
              (
                refl,
                tt,
                tt,
              ),
            ),
          ),
        ),
      ),
    ),
  ),
)

merged_is : (rows : List Row) (fs all : List Named) → merge is_never_written rows fs all ≡ merged rows fs all
merged_is rows [] all = refl
merged_is rows (f ∷ fs) all = by_test (is_never_written f.0) (merged_is rows fs all) (merged_is (rows_after f.0 rows) fs all)
  where
    by_test : (t : Bool) → merge is_never_written rows fs all ≡ merged rows fs all → merge is_never_written (rows_after f.0 rows) fs all ≡ merged (rows_after f.0 rows) fs all
        → cond t (merge is_never_written rows fs all) (moved (rows_before f.0 rows) all ++ f ∷ merge is_never_written (rows_after f.0 rows) fs all) ≡ cond t (merged rows fs all) (moved (rows_before f.0 rows) all ++ f ∷ merged (rows_after f.0 rows) fs all)
    by_test true more later = more
    by_test false more later = ap (λ (x : List Named). moved (rows_before f.0 rows) all ++ f ∷ x) later

placed_is : (f : Named) (gs : List Named) → placed f gs ≡ place is_never_written written_name f gs
placed_is f [] = refl
placed_is f (g ∷ gs) = ap (λ (x : List Named). cond (is_less (written_name g.0) (written_name f.0)) (g ∷ x) (f ∷ g ∷ gs)) (placed_is f gs)

order_is : (fs : List Named) → in_written_order fs ≡ order is_never_written written_name fs
order_is [] = refl
order_is (f ∷ fs) = ap (placed f) (order_is fs) ∙ placed_is f (order is_never_written written_name fs)

-- they are those that stay with the moved ones at their places
pub order_fields : (fs : List Named) → AreInOrder fs → merged other_names fs fs ≡ in_written_order fs
order_fields fs sorted =
    sym (merged_is other_names fs fs) ∙ (sym (order_merged is_never_written written_name other_names table (λ name. refl) fs (rising fs sorted) (stay fs)) ∙ sym (order_is fs))
