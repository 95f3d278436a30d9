-- Whether a list has a member, of a list and of what is made of its members.
use Rattle.std.proofs.Common.{◌≡◌, ℕ, zero, suc, Bool, true, false, List, [], ◌∷◌, map, length, not, nat_eq, refl}
use Rattle.laws.specs.Text.{is_filled}

pub filled_mapped : {X Y : Type 0} (f : X → Y) (xs : List X) → is_filled xs ≡ is_filled (map f xs)
filled_mapped f [] = refl
filled_mapped f (x ∷ xs) = refl
