-- Fields in the order of written names are those that stay with those that are moved at their places.
use Rattle.std.proofs.Common.{◌≡◌, ℕ, Bool, true, false, cond, ◌&&◌, ◌||◌, List, [], ◌∷◌, ◌++◌, Option, Some, None, bytes_eq, refl, sym, ap, subst, ◌∙◌, append_assoc, true≢false}
use Rattle.std.specs.Prelude.{option_map, option_to_list}
use Rattle.std.specs.List.{AllByRecursion}
use Rattle.std.proofs.lemmas.Grind.{flat_map-append}
use Rattle.std.proofs.lemmas.Slice.Eq.{bytes_eq-Decides}
use Rattle.biblatex_fields.specs.Fields.{Named, value_named}
use Rattle.biblatex_fields.specs.Value.{Value}
use Rattle.biblatex_writing.specs.Written.{is_less}
use Rattle.biblatex_writing.specs.Order.{Row, comes_before, rows_before, rows_after, field_there, moved}
use Rattle.biblatex_writing.proofs.OrderNames.{less_trans, less_back, less_itself, other_way}
use Rattle.biblatex_writing.proofs.OrderRows.{has_row, HasNoRow, IsTable, Follows, no_row, all_before, all_after, rows_parted, is_later, before_greater, after_greater, before_each, after_each, table_before, table_after, written_later, before_later, no_second, all_written, all_then, all_both, only_before, written_sooner, written_after_it}

-- each name is greater
abbrev pub IsBelow : List ℕ → List Named → Type 0
IsBelow name fs = AllByRecursion (λ f. is_less name f.0 ≡ true) fs

-- each name is less than those after it
abbrev pub IsRising : List Named → Type 0
IsRising [] = Unit {0}
IsRising (f ∷ fs) = IsBelow f.0 fs × IsRising fs

-- a lesser name is not there
not_there : (name : List ℕ) (fs : List Named) → IsBelow name fs → value_named name fs ≡ None
not_there name [] below = refl
not_there name (f ∷ fs) below = by_test (bytes_eq name f.0) refl (not_there name fs below.1)
  where
    by_test : (t : Bool) → bytes_eq name f.0 ≡ t → value_named name fs ≡ None → cond t (Some f.1) (value_named name fs) ≡ None
    by_test true h more = absurd (true≢false (sym (subst (λ (x : List ℕ). is_less name x ≡ true) (sym ((bytes_eq-Decides name f.0).0 h)) below.0) ∙ less_itself name))
    by_test false h more = more

-- a name that is less than one below all is below all
lower : (name n : List ℕ) (fs : List Named) → is_less name n ≡ true → IsBelow n fs → IsBelow name fs
lower name n fs l below = all_then (λ f. is_less n f.0 ≡ true) (λ f. is_less name f.0 ≡ true) fs (λ f h. less_trans name n f.0 l h) below

none_some : (o : Option Value) (v : Value) → o ≡ None → o ≡ Some v → ⊥
none_some o v a b = cc

all_append : (P : Named → Type 0) (xs ys : List Named) → AllByRecursion P xs → AllByRecursion P ys → AllByRecursion P (xs ++ ys)
all_append P [] ys p q = q
all_append P (x ∷ xs) ys p q = (p.0, all_append P xs ys p.1 q)

-- what holds of the moved field of each row, where it is there
all_moved : (P : Named → Type 0) (rows : List Row) (all : List Named) → AllByRecursion (λ row. (v : Value) → value_named row.1 all ≡ Some v → P (row.1, v)) rows → AllByRecursion P (moved rows all)
all_moved P [] all each = tt
all_moved P (row ∷ rows) all each = all_append P (field_there row.1 all) (moved rows all) (by_value (value_named row.1 all) refl) (all_moved P rows all each.1)
  where
    by_value : (o : Option Value) → value_named row.1 all ≡ o → AllByRecursion P (option_to_list (option_map (λ v. (row.1, v)) o))
    by_value None e = tt
    by_value (Some v) e = (each.0 v e, tt)

-- a field whose name has no row changes nothing of what is moved
moved_same : (f : Named) (rows : List Row) (all : List Named) → HasNoRow f.0 rows → moved rows (f ∷ all) ≡ moved rows all
moved_same f [] all none = refl
moved_same f (row ∷ rows) all none =
    ap (λ (t : Bool). option_to_list (option_map (λ v. (row.1, v)) (cond t (Some f.1) (value_named row.1 all))) ++ moved rows (f ∷ all)) (other_way f.0 row.1 none.0)
    ∙ ap (λ (x : List Named). field_there row.1 all ++ x) (moved_same f rows all none.1)

nothing_moved : (rows : List Row) → moved rows [] ≡ []
nothing_moved [] = refl
nothing_moved (row ∷ rows) = nothing_moved rows

moved_parted : (n : List ℕ) (rows : List Row) (all : List Named) → moved rows all ≡ moved (rows_before n rows) all ++ moved (rows_after n rows) all
moved_parted n rows all = ap (λ (x : List Row). moved x all) (rows_parted n rows) ∙ flat_map-append (λ row. field_there row.1 all) (rows_before n rows) (rows_after n rows)

-- by any test of moved names
module _ (m : List ℕ → Bool) where
  abbrev pub merge : List Row → List Named → List Named → List Named
  merge rows [] all = moved rows all
  merge rows (f ∷ fs) all = cond (m f.0) (merge rows fs all) (moved (rows_before f.0 rows) all ++ f ∷ merge (rows_after f.0 rows) fs all)

  merge_same : (f : Named) (hs : List Named) (rows : List Row) (all : List Named) → HasNoRow f.0 rows → merge rows hs (f ∷ all) ≡ merge rows hs all
  merge_same f [] rows all none = moved_same f rows all none
  merge_same f (h ∷ hs) rows all none = by_test (m h.0) (merge_same f hs rows all none) (merge_same f hs (rows_after h.0 rows) all (all_after (λ row. bytes_eq f.0 row.1 ≡ false) h.0 rows none))
    where
      by_test : (t : Bool) → merge rows hs (f ∷ all) ≡ merge rows hs all → merge (rows_after h.0 rows) hs (f ∷ all) ≡ merge (rows_after h.0 rows) hs all
          → cond t (merge rows hs (f ∷ all)) (moved (rows_before h.0 rows) (f ∷ all) ++ h ∷ merge (rows_after h.0 rows) hs (f ∷ all))
          ≡ cond t (merge rows hs all) (moved (rows_before h.0 rows) all ++ h ∷ merge (rows_after h.0 rows) hs all)
      by_test true more later = more
      by_test false more later =
          ap (λ (x : List Named). x ++ h ∷ merge (rows_after h.0 rows) hs (f ∷ all)) (moved_same f (rows_before h.0 rows) all (all_before (λ row. bytes_eq f.0 row.1 ≡ false) h.0 rows none))
          ∙ ap (λ (x : List Named). moved (rows_before h.0 rows) all ++ h ∷ x) later

  -- the moved fields that come before a name which is less than those of all fields come first
  merge_parted : (n : List ℕ) (gs : List Named) (rows : List Row) (all : List Named) → IsBelow n gs → merge rows gs all ≡ moved (rows_before n rows) all ++ merge (rows_after n rows) gs all
  merge_parted n [] rows all below = moved_parted n rows all
  merge_parted n (g ∷ gs) rows all below = by_test (m g.0) (merge_parted n gs rows all below.1)
    where
      by_test : (t : Bool) → merge rows gs all ≡ moved (rows_before n rows) all ++ merge (rows_after n rows) gs all
          → cond t (merge rows gs all) (moved (rows_before g.0 rows) all ++ g ∷ merge (rows_after g.0 rows) gs all)
          ≡ moved (rows_before n rows) all ++ cond t (merge (rows_after n rows) gs all) (moved (rows_before g.0 (rows_after n rows)) all ++ g ∷ merge (rows_after g.0 (rows_after n rows)) gs all)
      by_test true more = more
      by_test false more =
          ap (λ (x : List Row). moved x all ++ g ∷ merge (rows_after g.0 rows) gs all) (before_greater n g.0 rows below.0)
          ∙ (ap (λ (x : List Row). moved (rows_before n rows ++ rows_before g.0 (rows_after n rows)) all ++ g ∷ merge x gs all) (after_greater n g.0 rows below.0)
          ∙ (ap (λ (x : List Named). x ++ g ∷ merge (rows_after g.0 (rows_after n rows)) gs all) (flat_map-append (λ row. field_there row.1 all) (rows_before n rows) (rows_before g.0 (rows_after n rows)))
          ∙ append_assoc (moved (rows_before n rows) all) (moved (rows_before g.0 (rows_after n rows)) all) (g ∷ merge (rows_after g.0 (rows_after n rows)) gs all)))

  -- what holds of moved fields and of those that stay
  all_merged : (P : Named → Type 0) (hs : List Named) (rows : List Row) (all : List Named) → AllByRecursion (λ row. (v : Value) → value_named row.1 all ≡ Some v → P (row.1, v)) rows
      → AllByRecursion (λ h. m h.0 ≡ false → P h) hs → AllByRecursion P (merge rows hs all)
  all_merged P [] rows all each stay = all_moved P rows all each
  all_merged P (h ∷ hs) rows all each stay = by_test (m h.0) refl (all_merged P hs rows all each stay.1) (all_merged P hs (rows_after h.0 rows) all (all_after (λ row. (v : Value) → value_named row.1 all ≡ Some v → P (row.1, v)) h.0 rows each) stay.1)
    where
      by_test : (t : Bool) → m h.0 ≡ t → AllByRecursion P (merge rows hs all) → AllByRecursion P (merge (rows_after h.0 rows) hs all)
          → AllByRecursion P (cond t (merge rows hs all) (moved (rows_before h.0 rows) all ++ h ∷ merge (rows_after h.0 rows) hs all))
      by_test true e more later = more
      by_test false e more later =
          all_append P (moved (rows_before h.0 rows) all) (h ∷ merge (rows_after h.0 rows) hs all) (all_moved P (rows_before h.0 rows) all (all_before (λ row. (v : Value) → value_named row.1 all ≡ Some v → P (row.1, v)) h.0 rows each)) (stay.0 e, later)

  -- by any written names
  module _ (w : List ℕ → List ℕ) where
    abbrev pub place : Named → List Named → List Named
    place f [] = f ∷ []
    place f (g ∷ gs) = cond (is_less (w g.0) (w f.0)) (g ∷ place f gs) (f ∷ g ∷ gs)

    place_over : (f : Named) (xs ys : List Named) → AllByRecursion (λ x. is_less (w x.0) (w f.0) ≡ true) xs → place f (xs ++ ys) ≡ xs ++ place f ys
    place_over f [] ys all = refl
    place_over f (x ∷ xs) ys all = ap (λ (t : Bool). cond t (x ∷ place f (xs ++ ys)) (f ∷ x ∷ (xs ++ ys))) all.0 ∙ ap (λ (zs : List Named). x ∷ zs) (place_over f xs ys all.1)

    place_here : (f : Named) (xs : List Named) → AllByRecursion (λ x. is_less (w x.0) (w f.0) ≡ false) xs → place f xs ≡ f ∷ xs
    place_here f [] all = refl
    place_here f (x ∷ xs) all = ap (λ (t : Bool). cond t (x ∷ place f xs) (f ∷ x ∷ xs)) all.0

    place_in : (f : Named) (xs : List Named) (y : Named) (ys : List Named) → is_less (w y.0) (w f.0) ≡ false → place f (xs ++ y ∷ ys) ≡ place f xs ++ y ∷ ys
    place_in f [] y ys l = ap (λ (t : Bool). cond t (y ∷ place f ys) (f ∷ y ∷ ys)) l
    place_in f (x ∷ xs) y ys l = by_test (is_less (w x.0) (w f.0)) (place_in f xs y ys l)
      where
        by_test : (t : Bool) → place f (xs ++ y ∷ ys) ≡ place f xs ++ y ∷ ys → cond t (x ∷ place f (xs ++ y ∷ ys)) (f ∷ x ∷ (xs ++ y ∷ ys)) ≡ cond t (x ∷ place f xs) (f ∷ x ∷ xs) ++ y ∷ ys
        by_test true more = ap (λ (zs : List Named). x ∷ zs) more
        by_test false more = refl

    abbrev pub order : List Named → List Named
    order [] = []
    order (f ∷ fs) = place f (order fs)

    -- a moved field among the moved ones
    moved_placed : (f : Named) (rows : List Row) (all : List Named) → IsTable w rows → has_row f.0 rows ≡ true → value_named f.0 all ≡ None → moved rows (f ∷ all) ≡ place f (moved rows all)
    moved_placed f [] all table has none = absurd (true≢false (sym has))
    moved_placed f (row ∷ rows) all table has none = by_name (bytes_eq f.0 row.1) refl has (moved_placed f rows all table.2)
      where
        above : f.0 ≡ row.1 → AllByRecursion (λ r. (v : Value) → value_named r.1 all ≡ Some v → is_less (w r.1) (w f.0) ≡ false) rows
        above is =
            all_then (Follows w row) (λ r. (v : Value) → value_named r.1 all ≡ Some v → is_less (w r.1) (w f.0) ≡ false) rows
            (λ r follows v e. subst (λ (x : List ℕ). is_less x (w f.0) ≡ false) (sym follows.2) (subst (λ (x : List ℕ). is_less r.0 x ≡ false) (sym (ap w is ∙ table.0)) (less_back row.0 r.0 follows.0))) table.1

        by_value : (o : Option Value) → is_less (w row.1) (w f.0) ≡ true → AllByRecursion {X = Named} (λ (x : Named). is_less (w x.0) (w f.0) ≡ true) (option_to_list (option_map (λ v. (row.1, v)) o))
        by_value None l = tt
        by_value (Some v) l = (l, tt)

        by_name : (s : Bool) → bytes_eq f.0 row.1 ≡ s → (s || has_row f.0 rows) ≡ true → (has_row f.0 rows ≡ true → value_named f.0 all ≡ None → moved rows (f ∷ all) ≡ place f (moved rows all))
            → moved (row ∷ rows) (f ∷ all) ≡ place f (moved (row ∷ rows) all)
        by_name true h e more =
            let is : f.0 ≡ row.1 = (bytes_eq-Decides f.0 row.1).0 h in
            ap (λ (t : Bool). option_to_list (option_map (λ v. (row.1, v)) (cond t (Some f.1) (value_named row.1 all))) ++ moved rows (f ∷ all)) ((bytes_eq-Decides row.1 f.0).1 (sym is))
            ∙ (ap (λ (x : List Named). (row.1, f.1) ∷ x) (moved_same f rows all (no_second w row f.0 rows is table.1))
            ∙ (ap (λ (n : List ℕ). (n, f.1) ∷ moved rows all) (sym is)
            ∙ (sym (place_here f (moved rows all) (all_moved (λ x. is_less (w x.0) (w f.0) ≡ false) rows all (above is)))
            ∙ ap (λ (o : Option Value). place f (option_to_list (option_map (λ v. (row.1, v)) o) ++ moved rows all)) (sym (ap (λ (n : List ℕ). value_named n all) (sym is) ∙ none)))))
        by_name false h e more =
            let l : is_less (w row.1) (w f.0) ≡ true = subst (λ (x : List ℕ). is_less x (w f.0) ≡ true) (sym table.0) (written_later w row f.0 rows e table.1) in
            ap (λ (t : Bool). option_to_list (option_map (λ v. (row.1, v)) (cond t (Some f.1) (value_named row.1 all))) ++ moved rows (f ∷ all)) (other_way f.0 row.1 h)
            ∙ (ap (λ (x : List Named). field_there row.1 all ++ x) (more e none)
            ∙ sym (place_over f (field_there row.1 all) (moved rows all) (by_value (value_named row.1 all) l)))

    -- fields that stay are written under their own names
    abbrev pub Stay : List Named → Type 0
    Stay fs = AllByRecursion (λ f. m f.0 ≡ false → w f.0 ≡ f.0) fs

    -- a moved field among all
    merge_moved : (f : Named) (hs : List Named) (rows : List Row) (all : List Named) → IsTable w rows → has_row f.0 rows ≡ true → value_named f.0 all ≡ None → IsBelow f.0 hs → Stay hs
        → merge rows hs (f ∷ all) ≡ place f (merge rows hs all)
    merge_moved f [] rows all table has none below stay = moved_placed f rows all table has none
    merge_moved f (h ∷ hs) rows all table has none below stay =
        by_test (m h.0) refl (merge_moved f hs rows all table has none below.1 stay.1)
        (λ later. merge_moved f hs (rows_after h.0 rows) all (table_after w h.0 rows table) later none below.1 stay.1)
      where
        by_place : (s : Bool) → has_row f.0 (rows_before h.0 rows) ≡ s → w h.0 ≡ h.0
            → (has_row f.0 (rows_after h.0 rows) ≡ true → merge (rows_after h.0 rows) hs (f ∷ all) ≡ place f (merge (rows_after h.0 rows) hs all))
            → moved (rows_before h.0 rows) (f ∷ all) ++ h ∷ merge (rows_after h.0 rows) hs (f ∷ all) ≡ place f (moved (rows_before h.0 rows) all ++ h ∷ merge (rows_after h.0 rows) hs all)
        by_place true e own later =
            ap (λ (x : List Named). x ++ h ∷ merge (rows_after h.0 rows) hs (f ∷ all)) (moved_placed f (rows_before h.0 rows) all (table_before w h.0 rows table) e none)
            ∙ (ap (λ (x : List Named). place f (moved (rows_before h.0 rows) all) ++ h ∷ x) (merge_same f hs (rows_after h.0 rows) all (only_before w f.0 h.0 rows table e))
            ∙ sym (place_in f (moved (rows_before h.0 rows) all) h (merge (rows_after h.0 rows) hs all) (subst (λ (x : List ℕ). is_less x (w f.0) ≡ false) (sym own) (written_sooner w f.0 h.0 rows table e))))
        by_place false e own later =
            let after : has_row f.0 (rows_after h.0 rows) ≡ true = is_later f.0 h.0 rows has e in
            let less : is_less (w h.0) (w f.0) ≡ true = subst (λ (x : List ℕ). is_less x (w f.0) ≡ true) (sym own) (written_after_it w f.0 h.0 rows table below.0 after) in
            ap (λ (x : List Named). x ++ h ∷ merge (rows_after h.0 rows) hs (f ∷ all)) (moved_same f (rows_before h.0 rows) all (no_row f.0 (rows_before h.0 rows) e))
            ∙ (ap (λ (x : List Named). moved (rows_before h.0 rows) all ++ h ∷ x) (later after)
            ∙ (ap (λ (t : Bool). moved (rows_before h.0 rows) all ++ cond t (h ∷ place f (merge (rows_after h.0 rows) hs all)) (f ∷ h ∷ merge (rows_after h.0 rows) hs all)) (sym less)
            ∙ sym (place_over f (moved (rows_before h.0 rows) all) (h ∷ merge (rows_after h.0 rows) hs all) (all_moved (λ x. is_less (w x.0) (w f.0) ≡ true) (rows_before h.0 rows) all (all_then (λ row. is_less (w row.1) (w f.0) ≡ true) (λ row. (v : Value) → value_named row.1 all ≡ Some v → is_less (w row.1) (w f.0) ≡ true) (rows_before h.0 rows) (λ row l v e. l) (before_later w f.0 h.0 rows table after))))))

        by_test : (t : Bool) → m h.0 ≡ t → merge rows hs (f ∷ all) ≡ place f (merge rows hs all)
            → (has_row f.0 (rows_after h.0 rows) ≡ true → merge (rows_after h.0 rows) hs (f ∷ all) ≡ place f (merge (rows_after h.0 rows) hs all))
            → cond t (merge rows hs (f ∷ all)) (moved (rows_before h.0 rows) (f ∷ all) ++ h ∷ merge (rows_after h.0 rows) hs (f ∷ all))
            ≡ place f (cond t (merge rows hs all) (moved (rows_before h.0 rows) all ++ h ∷ merge (rows_after h.0 rows) hs all))
        by_test true e more later = more
        by_test false e more later = by_place (has_row f.0 (rows_before h.0 rows)) refl (stay.0 e) later

    -- a field that stays among all
    merge_stayed : (f : Named) (gs : List Named) (rows : List Row) → IsTable w rows → HasNoRow f.0 rows → w f.0 ≡ f.0 → IsBelow f.0 gs → Stay gs
        → moved (rows_before f.0 rows) (f ∷ gs) ++ f ∷ merge (rows_after f.0 rows) gs (f ∷ gs) ≡ place f (merge rows gs gs)
    merge_stayed f gs rows table none own below stay =
        ap (λ (x : List Named). x ++ f ∷ merge (rows_after f.0 rows) gs (f ∷ gs)) (moved_same f (rows_before f.0 rows) gs (all_before (λ row. bytes_eq f.0 row.1 ≡ false) f.0 rows none))
        ∙ (ap (λ (x : List Named). moved (rows_before f.0 rows) gs ++ f ∷ x) (merge_same f gs (rows_after f.0 rows) gs (all_after (λ row. bytes_eq f.0 row.1 ≡ false) f.0 rows none))
        ∙ (ap (λ (x : List Named). moved (rows_before f.0 rows) gs ++ x) (sym (place_here f (merge (rows_after f.0 rows) gs gs) later))
        ∙ (sym (place_over f (moved (rows_before f.0 rows) gs) (merge (rows_after f.0 rows) gs gs) sooner)
        ∙ ap (place f) (sym (merge_parted f.0 gs rows gs below)))))
      where
        same_row : (row : Row) (v : Value) → value_named row.1 gs ≡ Some v → (s : Bool) → (s && is_less row.1 f.0) ≡ true → ⊥
        same_row row v there true e = none_some (value_named row.1 gs) v (not_there row.1 gs (lower row.1 f.0 gs e below)) there
        same_row row v there false e = true≢false (sym e)

        row_sooner : (row : Row) (v : Value) → value_named row.1 gs ≡ Some v → (t : Bool) → is_less row.0 f.0 ≡ t → (t || (bytes_eq row.0 f.0 && is_less row.1 f.0)) ≡ true → is_less row.0 f.0 ≡ true
        row_sooner row v there true h e = h
        row_sooner row v there false h e = absurd (same_row row v there (bytes_eq row.0 f.0) e)

        sooner : AllByRecursion (λ x. is_less (w x.0) (w f.0) ≡ true) (moved (rows_before f.0 rows) gs)
        sooner =
            all_moved (λ x. is_less (w x.0) (w f.0) ≡ true) (rows_before f.0 rows) gs
            (all_then (λ row. (comes_before row f.0 ≡ true) × (w row.1 ≡ row.0)) (λ row. (v : Value) → value_named row.1 gs ≡ Some v → is_less (w row.1) (w f.0) ≡ true) (rows_before f.0 rows)
            (λ row both v there. subst (λ (x : List ℕ). is_less x (w f.0) ≡ true) (sym both.1) (subst (λ (x : List ℕ). is_less row.0 x ≡ true) (sym own) (row_sooner row v there (is_less row.0 f.0) refl both.0)))
            (all_both (λ row. comes_before row f.0 ≡ true) (λ row. w row.1 ≡ row.0) (rows_before f.0 rows) (before_each f.0 rows) (all_before (λ row. w row.1 ≡ row.0) f.0 rows (all_written w rows table))))

        later : AllByRecursion (λ x. is_less (w x.0) (w f.0) ≡ false) (merge (rows_after f.0 rows) gs gs)
        later =
            all_merged (λ x. is_less (w x.0) (w f.0) ≡ false) gs (rows_after f.0 rows) gs
            (all_then (λ row. (is_less row.0 f.0 ≡ false) × (w row.1 ≡ row.0)) (λ row. (v : Value) → value_named row.1 gs ≡ Some v → is_less (w row.1) (w f.0) ≡ false) (rows_after f.0 rows)
            (λ row both v there. subst (λ (x : List ℕ). is_less x (w f.0) ≡ false) (sym both.1) (subst (λ (x : List ℕ). is_less row.0 x ≡ false) (sym own) both.0))
            (all_both (λ row. is_less row.0 f.0 ≡ false) (λ row. w row.1 ≡ row.0) (rows_after f.0 rows) (after_each w f.0 rows table) (all_after (λ row. w row.1 ≡ row.0) f.0 rows (all_written w rows table))))
            (all_then (λ h. (is_less f.0 h.0 ≡ true) × (m h.0 ≡ false → w h.0 ≡ h.0)) (λ h. m h.0 ≡ false → is_less (w h.0) (w f.0) ≡ false) gs
            (λ h both e. subst (λ (x : List ℕ). is_less x (w f.0) ≡ false) (sym (both.1 e)) (subst (λ (x : List ℕ). is_less h.0 x ≡ false) (sym own) (less_back f.0 h.0 both.0)))
            (all_both (λ h. is_less f.0 h.0 ≡ true) (λ h. m h.0 ≡ false → w h.0 ≡ h.0) gs below stay))

    -- fields whose names rise, in the order of written names
    pub order_merged : (rows : List Row) → IsTable w rows → ((name : List ℕ) → m name ≡ has_row name rows) → (fs : List Named) → IsRising fs → Stay fs → order fs ≡ merge rows fs fs
    order_merged rows table test [] rising stay = sym (nothing_moved rows)
    order_merged rows table test (f ∷ gs) rising stay = ap (place f) (order_merged rows table test gs rising.1 stay.1) ∙ by_test (m f.0) refl
      where
        by_test : (t : Bool) → m f.0 ≡ t → place f (merge rows gs gs) ≡ cond t (merge rows gs (f ∷ gs)) (moved (rows_before f.0 rows) (f ∷ gs) ++ f ∷ merge (rows_after f.0 rows) gs (f ∷ gs))
        by_test true e = sym (merge_moved f gs rows gs table (sym (test f.0) ∙ e) (not_there f.0 gs rising.0) rising.0 stay.1)
        by_test false e = sym (merge_stayed f gs rows table (no_row f.0 rows (sym (test f.0) ∙ e)) (stay.0 e) rising.0 stay.1)
