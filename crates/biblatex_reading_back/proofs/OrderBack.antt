-- Fields in the order of written names, where no two are written under one name, go one after the other.
use Rattle.std.proofs.Common.{◌≡◌, ℕ, Bool, true, false, true≢false, cond, List, [], ◌∷◌, ◌++◌, map, Ordering, Less, Equal, Greater, bytes_eq, nat_cmp, refl, sym, ap, ◌∙◌}
use Rattle.std.specs.Cmp.Lexicographic.{slice_cmp}
use Rattle.std.specs.List.{AllByRecursion, IsDistinct}
use Rattle.std.specs.Ordering.{is_lt, ordering_reverse}
use Rattle.std.proofs.lemmas.Cmp.{nat_list_cmp_total}
use Rattle.biblatex_fields.specs.Fields.{Named}
use Rattle.biblatex_fields.specs.Value.{Value}
use Rattle.biblatex_writing.specs.FieldNames.{written_name, HaveDistinctWrittenNames}
use Rattle.biblatex_writing.specs.Written.{is_less, placed, in_written_order}
use Rattle.biblatex_writing.proofs.OrderNames.{less_trans, less_other, other_way}
use Rattle.biblatex_writing.proofs.OrderRows.{all_then}
use Rattle.biblatex_reading_back.proofs.FieldsBack.{AreRising}

-- a field is written before another one
abbrev is_before : Named → Named → Bool
is_before f g = is_less (written_name f.0) (written_name g.0)

-- each is written before those after it
abbrev AreSorted : List Named → Type 0
AreSorted [] = Unit {0}
AreSorted (f ∷ fs) = AllByRecursion (λ g. is_before f g ≡ true) fs × AreSorted fs

-- a field is written under another name than each of these
abbrev Differs : Named → List Named → Type 0
Differs f gs = AllByRecursion (λ g. bytes_eq (written_name f.0) (written_name g.0) ≡ false) gs

-- what holds of a field and of others holds of all once it is placed
pub all_placed : (P : Named → Type 0) (f : Named) (gs : List Named) → P f → AllByRecursion P gs → AllByRecursion P (placed f gs)
all_placed P f [] p all = (p, tt)
all_placed P f (g ∷ gs) p all = by_test (is_before g f) (all_placed P f gs p all.1)
  where
    by_test : (b : Bool) → AllByRecursion P (placed f gs) → AllByRecursion P (cond b (g ∷ placed f gs) (f ∷ g ∷ gs))
    by_test true more = (all.0, more)
    by_test false more = (p, all)

pub all_ordered : (P : Named → Type 0) (fs : List Named) → AllByRecursion P fs → AllByRecursion P (in_written_order fs)
all_ordered P [] all = tt
all_ordered P (f ∷ fs) all = all_placed P f (in_written_order fs) all.0 (all_ordered P fs all.1)

placed_sorted : (f : Named) (gs : List Named) → AreSorted gs → Differs f gs → AreSorted (placed f gs)
placed_sorted f [] sorted differs = (tt, tt)
placed_sorted f (g ∷ gs) sorted differs = by_test (is_before g f) refl (placed_sorted f gs sorted.1 differs.1)
  where
    by_test : (b : Bool) → is_before g f ≡ b → AreSorted (placed f gs) → AreSorted (cond b (g ∷ placed f gs) (f ∷ g ∷ gs))
    by_test true e more = (all_placed (λ h. is_before g h ≡ true) f gs e sorted.0, more)
    by_test false e more =
        let first : is_before f g ≡ true = less_other (written_name g.0) (written_name f.0) e (other_way (written_name f.0) (written_name g.0) differs.0) in
        ((first, all_then (λ h. is_before g h ≡ true) (λ h. is_before f h ≡ true) gs (λ h l. less_trans (written_name f.0) (written_name g.0) (written_name h.0) first l) sorted.0), sorted)

differ : (f : Named) (fs : List Named) → AllByRecursion (λ name. bytes_eq (written_name f.0) name ≡ false) (map (λ (g : Named). written_name g.0) fs) → Differs f fs
differ f [] all = tt
differ f (g ∷ gs) all = (all.0, differ f gs all.1)

order_sorted : (fs : List Named) → HaveDistinctWrittenNames fs → AreSorted (in_written_order fs)
unfolding IsDistinct
order_sorted [] distinct = tt
order_sorted (f ∷ fs) distinct =
    placed_sorted f (in_written_order fs) (order_sorted fs distinct.1) (all_ordered (λ g. bytes_eq (written_name f.0) (written_name g.0) ≡ false) fs (differ f fs distinct.0))

greater : (a b : List ℕ) → is_less a b ≡ true → slice_cmp nat_cmp b a ≡ Greater
greater a b less = nat_list_cmp_total.antisymm b a ∙ ap ordering_reverse (by_order (slice_cmp nat_cmp a b) less)
  where
    by_order : (o : Ordering) → is_lt o ≡ true → o ≡ Less
    by_order Less e = refl
    by_order Equal e = absurd (true≢false (sym e))
    by_order Greater e = absurd (true≢false (sym e))

-- fields above those that are done
abbrev AreAbove : List Named → List Named → Type 0
AreAbove done fs = AllByRecursion (λ f. AllByRecursion (λ d. slice_cmp nat_cmp (written_name f.0) d.0 ≡ Greater) done) fs

all_and_last : (P : Named → Type 0) (xs : List Named) (x : Named) → AllByRecursion P xs → P x → AllByRecursion P (xs ++ x ∷ [])
all_and_last P [] x all p = (p, tt)
all_and_last P (y ∷ xs) x all p = (all.0, all_and_last P xs x all.1 p)

above_more : (done : List Named) (f : Named) (value : Value) (fs : List Named) → AllByRecursion (λ g. is_before f g ≡ true) fs → AreAbove done fs → AreAbove (done ++ (written_name f.0, value) ∷ []) fs
above_more done f value [] before above = tt
above_more done f value (g ∷ gs) before above = (
  all_and_last (λ d. slice_cmp nat_cmp (written_name g.0) d.0 ≡ Greater) done (written_name f.0, value) above.0 (greater (written_name f.0) (written_name g.0) before.0),
  above_more done f value gs before.1 above.1,
)

rising : (done fs : List Named) → AreSorted fs → AreAbove done fs → AreRising done fs
rising done [] sorted above = tt
rising done (f ∷ fs) sorted above = (above.0, λ value. rising (done ++ (written_name f.0, value) ∷ []) fs sorted.1 (above_more done f value fs sorted.0 above.1))

above_none : (fs : List Named) → AreAbove [] fs
above_none [] = tt
above_none (f ∷ fs) = (tt, above_none fs)

pub order_rising : (fs : List Named) → HaveDistinctWrittenNames fs → AreRising [] (in_written_order fs)
order_rising fs distinct = rising [] (in_written_order fs) (order_sorted fs distinct) (above_none (in_written_order fs))
