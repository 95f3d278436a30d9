-- A step over a text, taken as often as it gives something.
use Rattle.std.specs.Prelude.{◌≡◌, ℕ, zero, suc, ◌<◌, List, [], ◌∷◌, length, Option, Some, None, Result, Ok}
use Rattle.laws.specs.Results.{◌>>=◌}

-- A step gives something and the text after it, or nothing and the text where it stopped, or a fault.
abbrev pub Step : Type 0 → Type 0 → Type 0
Step F X = List ℕ → Result (Option X × List ℕ) F

-- what comes after a step: nothing, or what it gave before what the other steps give
abbrev pub go_on : {F X : Type 0} → (List ℕ → Result (List X × List ℕ) F) → Option X → List ℕ → Result (List X × List ℕ) F
go_on others None rest = Ok ([], rest)
go_on others (Some x) rest = others rest >>= λ p. Ok (x ∷ p.0, p.1)

-- at most n steps that give something; at the n-th the text counts as done
unfoldable pub each_below : {F X : Type 0} → ℕ → Step F X → List ℕ → Result (List X × List ℕ) F
each_below zero step text = Ok ([], text)
each_below (suc n) step text = step text >>= λ p. go_on (λ rest. each_below n step rest) p.0 p.1

-- The step as often as it gives something: all that it gave, and the text where it stopped. A step that gives
-- something takes a character at least, so one more step than the text has characters is enough.
unfoldable pub each : {F X : Type 0} → Step F X → List ℕ → Result (List X × List ℕ) F
each step text = each_below (suc (length text)) step text

-- a step that gives something leaves less to read
abbrev pub Shortens : {F X : Type 0} → Step F X → Type 0
Shortens {F} {X} step = (text rest : List ℕ) (x : X) → step text ≡ Ok (Some x, rest) → length rest < length text
