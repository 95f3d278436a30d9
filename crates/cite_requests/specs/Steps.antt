-- Steps over a list, each of which may refuse.
use Rattle.std.specs.Prelude.{List, [], ◌∷◌, ◌++◌, Result, Ok}
use Rattle.laws.specs.Results.{◌>>=◌}

-- what a step gives of each member, or the first refusal
unfoldable pub all_ok : {F X Y : Type 0} → (X → Result Y F) → List X → Result (List Y) F
all_ok step [] = Ok []
all_ok step (x ∷ xs) = do
  y ← step x
  ys ← all_ok step xs
  Ok (y ∷ ys)

-- what a step gives of each member, after what other members gave
unfoldable pub all_ok_after : {F X Y : Type 0} → (X → Result Y F) → List Y → List X → Result (List Y) F
all_ok_after step done [] = Ok done
all_ok_after step done (x ∷ xs) = step x >>= λ y. all_ok_after step (done ++ y ∷ []) xs
