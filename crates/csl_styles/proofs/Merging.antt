-- The first of the faults of two lists.
use Rattle.std.proofs.Common.{◌≡◌, Bool, true, false, cond, List, [], ◌∷◌, Option, Some, refl, nat_lt}
use Rattle.xml_schema.specs.Faults.{first_of}
use Rattle.csl_styles.specs.Faults.{Fault, before, merged, earlier_of}

pub first_merged : (fs gs : List Fault) → first_of (merged fs gs) ≡ earlier_of (first_of fs) (first_of gs)
first_merged [] gs = refl
first_merged (f ∷ fs) [] = refl
first_merged (f ∷ fs) (g ∷ gs) = by_test (nat_lt f.left g.left) f g (before f (merged fs) gs) (merged fs (g ∷ gs))
  where
    by_test : (is : Bool) (f g : Fault) (xs ys : List Fault) → first_of (cond is (g ∷ xs) (f ∷ ys)) ≡ cond is (Some g) (Some f)
    by_test true f g xs ys = refl
    by_test false f g xs ys = refl
