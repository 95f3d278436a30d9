-- Gathering what a step gives as a loop does.
use Rattle.std.proofs.Common.{◌≡◌, ℕ, List, [], ◌∷◌, ◌++◌, Some, None, Result, Ok, Err, refl, sym, ap, ◌∙◌, append_assoc}
use Rattle.std.proofs.lemmas.List.{append-nil}
use Rattle.laws.specs.Results.{◌>>=◌}
use Rattle.laws.specs.Steps.{Step, each, Shortens}
use Rattle.laws.proofs.Steps.{each-none, each-some, each-err}

-- what was gathered, before what is read
abbrev pub prepended : {F X : Type 0} → List X → Result (List X × List ℕ) F → Result (List X × List ℕ) F
prepended prefix read = read >>= λ p. Ok (prefix ++ p.0, p.1)

-- what was gathered and what the step gives from the rest on is all
pub record Gathers {F X : Type 0} (step : Step F X) (prefix : List X) (rest : List ℕ) (all : Result (List X × List ℕ) F) : Type 0 where
  pub reads : prepended prefix (each step rest) ≡ all

same_read : {F X : Type 0} (read : Result (List X × List ℕ) F) → prepended [] read ≡ read
same_read (Ok p) = refl
same_read (Err f) = refl

regroup : {F X : Type 0} (prefix : List X) (x : X) (read : Result (List X × List ℕ) F) → prepended prefix (read >>= λ p. Ok (x ∷ p.0, p.1)) ≡ prepended (prefix ++ x ∷ []) read
regroup prefix x (Ok p) = ap (λ xs. Ok (xs, p.1)) (sym (append_assoc prefix (x ∷ []) p.0))
regroup prefix x (Err f) = refl

pub begins : {F X : Type 0} (step : Step F X) (whole : List ℕ) → Gathers step [] whole (each step whole)
begins step whole = record { reads = same_read (each step whole) }

pub goes_on : {F X : Type 0} (step : Step F X) → Shortens step → (prefix : List X) (rest more : List ℕ) (all : Result (List X × List ℕ) F) (x : X)
    → Gathers step prefix rest all → step rest ≡ Ok (Some x, more) → Gathers step (prefix ++ x ∷ []) more all
goes_on step shorter prefix rest more all x so_far is =
    record { reads = sym (ap (prepended prefix) (each-some step shorter rest more x is) ∙ regroup prefix x (each step more)) ∙ so_far.reads }

pub ends : {F X : Type 0} (step : Step F X) (prefix : List X) (rest more : List ℕ) (all : Result (List X × List ℕ) F)
    → Gathers step prefix rest all → step rest ≡ Ok (None, more) → all ≡ Ok (prefix, more)
ends step prefix rest more all so_far is =
    sym so_far.reads ∙ (ap (prepended prefix) (each-none step rest more is) ∙ ap (λ xs. Ok (xs, more)) (append-nil prefix))

pub fails : {F X : Type 0} (step : Step F X) (prefix : List X) (rest : List ℕ) (all : Result (List X × List ℕ) F) (f : F)
    → Gathers step prefix rest all → step rest ≡ Err f → all ≡ Err f
fails step prefix rest all f so_far is = sym so_far.reads ∙ ap (prepended prefix) (each-err step rest f is)
