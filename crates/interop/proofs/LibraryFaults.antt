-- Faults that have been found.
use Rattle.std.proofs.Common.{◌≡◌, ◌≢◌, List, [], ◌∷◌, map, refl, sym, ap, Ok, Err}
use Rattle.interop.specs.Bridge.{Fault, unless_faulty}
use Rattle.interop.specs.declared.error.FieldFault.{FieldFault}
use Rattle.interop.specs.Views.{fault_view}

-- where there are faults, they are what is refused
pub some : {W : Type 0} (fs : List FieldFault) (gs : List Fault) (w : W) → map fault_view fs ≡ gs → fs ≢ [] → unless_faulty gs w ≡ Err (map fault_view fs)
some [] gs w e is_some = absurd (is_some refl)
some (f ∷ fs) gs w e is_some = ap (λ (x : List Fault). unless_faulty x w) (sym e)

-- where something was made, there is no fault
pub none : {W : Type 0} (gs : List Fault) (w x : W) → unless_faulty gs w ≡ Ok x → gs ≡ []
none [] w x is = refl
none (g ∷ gs) w x is = absurd cc

-- the faults that are returned are all faults
pub all_refused : {W : Type 0} (fs gs : List Fault) (w : W) → unless_faulty gs w ≡ Err fs → gs ≡ fs
all_refused fs [] w is = absurd cc
all_refused fs (g ∷ gs) w is = cc
