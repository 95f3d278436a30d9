-- Steps over a list that may fail, one after the other.
use Rattle.std.specs.Prelude.{List, [], ◌∷◌, Result, Ok}
use Rattle.laws.specs.Results.{◌>>=◌}

-- what each element makes of what the ones before it made, or the first fault
abbrev pub folded : {A S F : Type 0} → (S → A → Result S F) → S → List A → Result S F
folded step s [] = Ok s
folded step s (x ∷ xs) = step s x >>= λ more. folded step more xs
