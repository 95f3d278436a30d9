-- Reading a list as a loop does.
use Rattle.std.proofs.Common.{◌≡◌, ℕ, List, [], ◌∷◌, ◌++◌, Some, None, Result, Ok, Err, refl, ap, sym, ◌∙◌, append_assoc}
use Rattle.std.proofs.lemmas.List.{append-nil}
use Rattle.laws.specs.Results.{◌>>=◌}
use Rattle.laws.specs.Steps.{Step, Shortens, each}
use Rattle.laws.proofs.Steps.{each-none, each-some, each-err}
use Rattle.biblatex_text.specs.Reading.{Refusal}
use Rattle.biblatex_text.specs.Views.{prepended, Stops}
use Rattle.biblatex_text.specs.declared.error.Stop.{Stop}
use Rattle.biblatex_text.specs.declared.error.Stop.TheVariants as stops

moved : {X : Type 0} (before : List X) (x : X) (r : Result (List X × List ℕ) Refusal) → prepended before (r >>= λ p. Ok (x ∷ p.0, p.1)) ≡ prepended (before ++ x ∷ []) r
moved before x (Ok p) = ap (λ (xs : List _). Ok (xs, p.1)) (sym (append_assoc before (x ∷ []) p.0))
moved before x (Err f) = refl

-- what a step gives stands after what was read before it
pub prepended-some : {X : Type 0} (step : Step Refusal X) → Shortens step → (before : List X) (cs rest : List ℕ) (x : X) → step cs ≡ Ok (Some x, rest)
    → prepended before (each step cs) ≡ prepended (before ++ x ∷ []) (each step rest)
prepended-some step shorter before cs rest x is = ap (prepended before) (each-some step shorter cs rest x is) ∙ moved before x (each step rest)

-- where a step gives nothing, what was read before it is all
pub prepended-none : {X : Type 0} (step : Step Refusal X) (before : List X) (cs rest : List ℕ) → step cs ≡ Ok (None, rest) → prepended before (each step cs) ≡ Ok (before, rest)
prepended-none step before cs rest is = ap (prepended before) (each-none step cs rest is) ∙ ap (λ (xs : List _). Ok (xs, rest)) (append-nil before)

-- a fault of a step is that of the list
pub prepended-err : {X : Type 0} (step : Step Refusal X) (before : List X) (cs : List ℕ) (f : Refusal) → step cs ≡ Err f → prepended before (each step cs) ≡ Err f
prepended-err step before cs f is = ap (prepended before) (each-err step cs f is)

pub prepended-stops : {X : Type 0} (step : Step Refusal X) (before : List X) (cs rest : List ℕ) (s : Stop) → Stops s rest (step cs) → Stops s rest (prepended before (each step cs))
prepended-stops step before cs rest stops.Memory is = tt
prepended-stops step before cs rest (stops.Fault f) is = prepended-err step before cs (f, rest) is
