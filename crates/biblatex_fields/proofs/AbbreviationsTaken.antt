-- Lists with one element more, and what has been gone over of them.
use Rattle.std.proofs.Common.{◌≡◌, ◌<◌, ◌+◌, ℕ, List, [], ◌∷◌, ◌++◌, map, take, get_or, length, ap, arith, ◌∙◌, add-one, take-suc}
use Rattle.std.proofs.lemmas.List.{map_push}

pub one_more : {X Y : Type 0} (f : X → Y) (xs : List X) (i : ℕ) (d : X) → i < length xs → map f (take (i + 1) xs) ≡ map f (take i xs) ++ f (get_or xs i d) ∷ []
one_more {X} f xs i d within =
    let longer : take (i + 1) xs ≡ take i xs ++ get_or xs i d ∷ [] = rw (add-one i) (take-suc xs i d within) in
    ap (map f) longer ∙ map_push f (take i xs) (get_or xs i d)

pub one_longer : {X : Type 0} (xs : List X) (x : X) → length (xs ++ x ∷ []) ≡ length xs + 1
one_longer [] x = omega arith
one_longer (y ∷ xs) x = let more = one_longer xs x in omega (arith, more)
