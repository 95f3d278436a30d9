-- What holds of all that steps give, and of what they refuse.
use Rattle.std.proofs.Common.{ℕ, zero, suc, All, List, [], ◌∷◌, length, flat_map, Option, Some, None, Result, Ok, Err}
use Rattle.std.specs.Prelude.{IfOk, IfSome, MatchResult}
use Rattle.std.proofs.lemmas.List.Elements.{All-nil, All-cons, All-head, All-tail, All-append}
use Rattle.laws.specs.Results.{◌>>=◌}
use Rattle.laws.specs.Steps.{Step, go_on, each_below, each}
use Rattle.laws.proofs.Results.{bind_if_ok}

-- what holds of the value of steps one after the other, and what of their refusal
pub bind_match : {F A B : Type 0} (P : A → Type 0) (R : B → Type 0) (Q : F → Type 0) (r : Result A F) (f : A → Result B F) → MatchResult r P Q → ((x : A) → P x → MatchResult (f x) R Q) → MatchResult (r >>= f) R Q
bind_match P R Q (Ok x) f is more = more x is
bind_match P R Q (Err d) f is more = is

-- each part holds it, so all do together
pub all-flat_map : {X Y : Type 0} (P : X → Type 0) (Q : Y → Type 0) (f : X → List Y) → ((x : X) → P x → All Q (f x)) → (xs : List X) → All P xs → All Q (flat_map f xs)
all-flat_map P Q f parts [] all = All-nil Q
all-flat_map P Q f parts (x ∷ xs) all = All-append Q (f x) (flat_map f xs) (parts x (All-head P x xs all)) (all-flat_map P Q f parts xs (All-tail P x xs all))

each_below-gives : {F X : Type 0} (P : X → Type 0) (step : Step F X) → ((text : List ℕ) → IfOk (step text) (λ p. IfSome p.0 P)) → (n : ℕ) (text : List ℕ)
    → IfOk (each_below n step text) (λ p. All P p.0)
unfolding each_below
each_below-gives P step gives zero text = All-nil P
each_below-gives {F} {X} P step gives (suc n) text =
    bind_if_ok (λ (p : Option X × List ℕ). IfSome p.0 P) (λ (q : List X × List ℕ). All P q.0) (step text) (λ p. go_on (λ rest. each_below n step rest) p.0 p.1) (gives text)
    (λ p given. by_gift (λ rest. each_below-gives P step gives n rest) p.0 p.1 given)
  where
    by_gift : ((rest : List ℕ) → IfOk (each_below n step rest) (λ q. All P q.0)) → (gift : Option X) (rest : List ℕ) → IfSome gift P
        → IfOk (go_on (λ rest. each_below n step rest) gift rest) (λ q. All P q.0)
    by_gift more None rest given = All-nil P
    by_gift more (Some x) rest given =
        bind_if_ok (λ (q : List X × List ℕ). All P q.0) (λ (q : List X × List ℕ). All P q.0) (each_below n step rest) (λ q. Ok (x ∷ q.0, q.1)) (more rest)
        (λ q all. All-cons P x q.0 given all)

-- what holds of whatever a step gives holds of all that it gives
pub each-gives : {F X : Type 0} (P : X → Type 0) (step : Step F X) → ((text : List ℕ) → IfOk (step text) (λ p. IfSome p.0 P)) → (text : List ℕ)
    → IfOk (each step text) (λ p. All P p.0)
unfolding each
each-gives P step gives text = each_below-gives P step gives (suc (length text)) text
