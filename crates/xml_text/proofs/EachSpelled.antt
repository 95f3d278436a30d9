-- What a step gives, one after the other, against a relation of what stands one after the other.
use Rattle.std.proofs.Common.{◌≡◌, ℕ, zero, suc, ◌<◌, List, [], ◌∷◌, length, Option, Some, None, Result, Ok, Err, refl, ap, ◌∙◌, subst, arith}
use Rattle.laws.specs.Results.{◌>>=◌}
use Rattle.laws.specs.Steps.{Step, go_on, each_below, each, Shortens}
use Rattle.laws.proofs.Results.{bind_ok, ok_is}
use Rattle.laws.proofs.Steps.{each-none, each-some}
use Rattle.xml_text.specs.Reading.{Refusal}
use Rattle.xml_text.specs.Grammar.{Spells, AreEach}

-- of what is given the relation holds
pub given : {X : Type 0} (P : X × List ℕ → Type 0) (x : X) (rest : List ℕ) (p : X × List ℕ) → ◌≡◌ {A = Result (X × List ℕ) Refusal} (Ok (x, rest)) (Ok p) → P (x, rest) → P p
given P x rest p e h = subst P (ok_is {F = Refusal} (x, rest) p e) h

-- what a step gives the relation relates, and where it gives nothing something ends
pub record GivesSpelled {X : Type 0} (Is : Spells X) (Ends : List ℕ → List ℕ → Type 0) (step : Step Refusal X) : Type 1 where
  pub one : (cs rest : List ℕ) (x : X) → step cs ≡ Ok (Some x, rest) → Is cs x rest
  pub none : (cs rest : List ℕ) → step cs ≡ Ok (None, rest) → Ends cs rest
  pub shorter : Shortens step

-- and the other way round
pub record SpelledGives {X : Type 0} (Is : Spells X) (Ends : List ℕ → List ℕ → Type 0) (step : Step Refusal X) : Type 1 where
  pub one : (cs rest : List ℕ) (x : X) → Is cs x rest → step cs ≡ Ok (Some x, rest)
  pub none : (cs rest : List ℕ) → Ends cs rest → step cs ≡ Ok (None, rest)
  pub shorter : Shortens step

pub each-again : {X : Type 0} (Is : Spells X) (Ends : List ℕ → List ℕ → Type 0) (step : Step Refusal X) → SpelledGives Is Ends step → (cs rest : List ℕ) (xs : List X) → AreEach Is Ends cs xs rest
    → each step cs ≡ Ok (xs, rest)
each-again Is Ends step g cs rest [] ends = each-none step cs rest (g.none cs rest ends)
each-again {X} Is Ends step g cs rest (x ∷ xs) (a, is, more) =
    each-some step g.shorter cs a x (g.one cs a x is) ∙ ap (λ (r : Result (List X × List ℕ) Refusal). r >>= λ p. Ok (x ∷ p.0, p.1)) (each-again Is Ends step g a rest xs more)

each_below-takes : {X : Type 0} (n : ℕ) (Is : Spells X) (Ends : List ℕ → List ℕ → Type 0) (step : Step Refusal X) → GivesSpelled Is Ends step → (cs : List ℕ) (p : List X × List ℕ) → length cs < n
    → each_below n step cs ≡ Ok p → AreEach Is Ends cs p.0 p.1
unfolding each_below
each_below-takes zero Is Ends step g cs p few e = absurd (omega arith)
each_below-takes {X} (suc n) Is Ends step g cs p few e = by_step (λ rest q less is. each_below-takes n Is Ends step g rest q less is) (step cs) refl e
  where
    Holds : List X × List ℕ → Type 0
    Holds q = AreEach Is Ends cs q.0 q.1

    by_step : ((rest : List ℕ) (q : List X × List ℕ) → length rest < n → each_below n step rest ≡ Ok q → AreEach Is Ends rest q.0 q.1) → (r : Result (Option X × List ℕ) Refusal) → step cs ≡ r
        → (r >>= λ o. go_on (λ rest. each_below n step rest) o.0 o.1) ≡ Ok p → Holds p
    by_step more (Err f) is d = absurd cc
    by_step more (Ok (None, rest)) is d = given Holds [] rest p d (g.none cs rest is)
    by_step more (Ok (Some x, rest)) is d =
        let less : length rest < length cs = g.shorter cs rest x is in
        let others = bind_ok (each_below n step rest) (λ q. Ok (x ∷ q.0, q.1)) p d in
        given Holds (x ∷ others.0.0) others.0.1 p others.2 (rest, g.one cs rest x is, more rest others.0 (omega arith) others.1)

pub each-takes : {X : Type 0} (Is : Spells X) (Ends : List ℕ → List ℕ → Type 0) (step : Step Refusal X) → GivesSpelled Is Ends step → (cs : List ℕ) (p : List X × List ℕ) → each step cs ≡ Ok p
    → AreEach Is Ends cs p.0 p.1
unfolding each
each-takes Is Ends step g cs p e = each_below-takes (suc (length cs)) Is Ends step g cs p (omega arith) e
