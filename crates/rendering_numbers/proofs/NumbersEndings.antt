-- Looking up in a list from an index on.
use Rattle.std.proofs.Common.{◌≡◌, ℕ, ◌+◌, ◌<◌, Bool, true, cond, List, map, length, get_or, drop, Some, sym, ap, ◌∙◌}
use Rattle.std.specs.Map.{lookup}
use Rattle.std.proofs.lemmas.List.{at_drop_more}

-- where a key passes, its value is found
pub lookup-found : {X Y K V : Type 0} (w : X → Y) (v : Y → K × V) (p : K → Bool) (xs : List X) (i : ℕ) (x : X) → i < length xs → x ≡ get_or xs i x → p (v (w x)).0 ≡ true
    → lookup p (map v (map w (drop i xs))) ≡ Some (v (w x)).1
lookup-found w v p xs i x low is e =
    at_drop_more (λ ys. lookup p (map v (map w ys))) xs i x low
    ∙ ap (λ b. cond b (Some (v (w (get_or xs i x))).1) (lookup p (map v (map w (drop (i + 1) xs))))) (ap (λ y. p (v (w y)).0) (sym is) ∙ e)
    ∙ ap (λ y. Some (v (w y)).1) (sym is)
