-- A step as often as it gives something: one equation for each way that it may go.
use Rattle.std.proofs.Common.{◌≡◌, ℕ, zero, suc, ◌<◌, ◌≤◌, List, [], ◌∷◌, length, Option, Some, None, Result, Ok, Err, refl, ap, arith}
use Rattle.std.specs.Prelude.{IfOk}
use Rattle.laws.specs.Results.{◌>>=◌}
use Rattle.laws.proofs.Results.{bind_if_ok}
use Rattle.laws.specs.Steps.{Step, go_on, each_below, each, Shortens}

-- a number of steps above the text's length is enough
enough : {F X : Type 0} (step : Step F X) → Shortens step → (n m : ℕ) (text : List ℕ) → length text < n → length text < m → each_below n step text ≡ each_below m step text
unfolding each_below
enough step shorter zero m text below_n below_m = absurd (omega arith)
enough step shorter (suc n) zero text below_n below_m = absurd (omega arith)
enough {F} {X} step shorter (suc n) (suc m) text below_n below_m = by_step (λ rest less_n less_m. enough step shorter n m rest less_n less_m) (step text) refl
  where
    by_step : ((rest : List ℕ) → length rest < n → length rest < m → each_below n step rest ≡ each_below m step rest) → (r : Result (Option X × List ℕ) F) → step text ≡ r
        → (r >>= λ p. go_on (λ rest. each_below n step rest) p.0 p.1) ≡ (r >>= λ p. go_on (λ rest. each_below m step rest) p.0 p.1)
    by_step more (Err f) is = refl
    by_step more (Ok (None, rest)) is = refl
    by_step more (Ok (Some x, rest)) is =
        let less : length rest < length text = shorter text rest x is in
        ap (λ (r : Result (List X × List ℕ) F). r >>= λ p. Ok (x ∷ p.0, p.1)) (more rest (omega arith) (omega arith))

-- nothing is given: the list ends
pub each-none : {F X : Type 0} (step : Step F X) (text rest : List ℕ) → step text ≡ Ok (None, rest) → each step text ≡ Ok ([], rest)
unfolding each each_below
each-none step text rest is = rw is refl

-- a fault ends it
pub each-err : {F X : Type 0} (step : Step F X) (text : List ℕ) (f : F) → step text ≡ Err f → each step text ≡ Err f
unfolding each each_below
each-err step text f is = rw is refl

-- something is given: it stands before what the rest gives
pub each-some : {F X : Type 0} (step : Step F X) → Shortens step → (text rest : List ℕ) (x : X) → step text ≡ Ok (Some x, rest)
    → each step text ≡ (each step rest >>= λ p. Ok (x ∷ p.0, p.1))
unfolding each each_below
each-some {F} {X} step shorter text rest x is =
    let less : length rest < length text = shorter text rest x is in
    let same : each_below (length text) step rest ≡ each_below (suc (length rest)) step rest = enough step shorter (length text) (suc (length rest)) rest less (omega arith) in
    rw is (ap (λ (r : Result (List X × List ℕ) F). r >>= λ p. Ok (x ∷ p.0, p.1)) same)

-- steps that never leave more to read, together leave no more either
each_below-leaves : {F X : Type 0} (step : Step F X) → ((text : List ℕ) → IfOk (step text) (λ p. length p.1 ≤ length text)) → (n : ℕ) (text : List ℕ)
    → IfOk (each_below n step text) (λ p. length p.1 ≤ length text)
unfolding each_below
each_below-leaves step leaves zero text = omega arith
each_below-leaves {F} {X} step leaves (suc n) text =
    bind_if_ok (λ (p : Option X × List ℕ). length p.1 ≤ length text) (λ (q : List X × List ℕ). length q.1 ≤ length text) (step text) (λ p. go_on (λ rest. each_below n step rest) p.0 p.1) (leaves text)
    (λ p less. by_gift (λ rest. each_below-leaves step leaves n rest) p.0 p.1 less)
  where
    by_gift : ((rest : List ℕ) → IfOk (each_below n step rest) (λ q. length q.1 ≤ length rest)) → (gift : Option X) (rest : List ℕ) → length rest ≤ length text
        → IfOk (go_on (λ rest. each_below n step rest) gift rest) (λ q. length q.1 ≤ length text)
    by_gift more None rest less = less
    by_gift more (Some x) rest less =
        bind_if_ok (λ (q : List X × List ℕ). length q.1 ≤ length rest) (λ (q : List X × List ℕ). length q.1 ≤ length text) (each_below n step rest) (λ q. Ok (x ∷ q.0, q.1)) (more rest)
        (λ q fewer. omega arith)

pub each-leaves : {F X : Type 0} (step : Step F X) → ((text : List ℕ) → IfOk (step text) (λ p. length p.1 ≤ length text)) → (text : List ℕ)
    → IfOk (each step text) (λ p. length p.1 ≤ length text)
unfolding each
each-leaves step leaves text = each_below-leaves step leaves (suc (length text)) text
