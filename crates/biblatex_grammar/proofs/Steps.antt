-- What steps of the reader give, against relations of what is spelled.
use Rattle.std.proofs.Common.{◌≡◌, ℕ, zero, suc, ◌<◌, eqb, List, [], ◌∷◌, length, Option, Some, None, Result, Ok, Err, refl, sym, ap, ◌∙◌, subst, arith}
use Rattle.std.proofs.lemmas.Bool.{eqb-true}
use Rattle.laws.specs.Results.{◌>>=◌}
use Rattle.laws.specs.Steps.{Step, go_on, each_below, each, Shortens}
use Rattle.laws.proofs.Results.{bind_ok, ok_is, test_ok}
use Rattle.biblatex_text.specs.Reading.{Refusal, token_at, closed_at}
use Rattle.biblatex_text.specs.declared.token.Token.{Token}
use Rattle.biblatex_text.specs.declared.token.Fault.TheVariants.{Expected}
use Rattle.biblatex_grammar.specs.Values.{Spells}
use Rattle.biblatex_grammar.proofs.Offsets.{Within}

-- what the relation relates is read
abbrev pub Again : {X : Type 0} → Spells X → (List ℕ → Result (X × List ℕ) Refusal) → Type 0
Again {X} Is read = (cs rest : List ℕ) (x : X) → Is cs x rest → read cs ≡ Ok (x, rest)

-- what is read, of a text of at most so many bytes, the relation relates
abbrev pub Takes : {X : Type 0} → ℕ → Spells X → (List ℕ → Result (X × List ℕ) Refusal) → Type 0
Takes {X} n Is read = (cs : List ℕ) (p : X × List ℕ) → Within n cs → read cs ≡ Ok p → Is cs p.0 p.1

-- of what is given the relation holds
pub given : {X : Type 0} (P : X × List ℕ → Type 0) (x : X) (rest : List ℕ) (p : X × List ℕ) → ◌≡◌ {A = Result (X × List ℕ) Refusal} (Ok (x, rest)) (Ok p) → P (x, rest) → P p
given P x rest p e h = subst P (ok_is {F = Refusal} (x, rest) p e) h

pub read_same : {X : Type 0} (x y : X) (a b : List ℕ) → x ≡ y → a ≡ b → ◌≡◌ {A = Result (X × List ℕ) Refusal} (Ok (x, a)) (Ok (y, b))
read_same x y a b e f = λ j. Ok (e j, f j)

pub first_same : {X : Type 0} (x y : X) (a b : List ℕ) → ◌≡◌ {A = Result (X × List ℕ) Refusal} (Ok (x, a)) (Ok (y, b)) → x ≡ y
first_same {X} x y a b e = ap (λ (p : X × List ℕ). p.0) (ok_is {F = Refusal} (x, a) (y, b) e)

pub rest_same : {X : Type 0} (x y : X) (a b : List ℕ) → ◌≡◌ {A = Result (X × List ℕ) Refusal} (Ok (x, a)) (Ok (y, b)) → a ≡ b
rest_same {X} x y a b e = ap (λ (p : X × List ℕ). p.1) (ok_is {F = Refusal} (x, a) (y, b) e)

abbrev pub none_of : (X : Type 0) → Option X
none_of X = None

-- what is read, as a step gives it
abbrev pub some_of : {X : Type 0} → Result (X × List ℕ) Refusal → Result (Option X × List ℕ) Refusal
some_of r = r >>= λ p. Ok (Some p.0, p.1)

some_is : {X : Type 0} (x y : X) → Some x ≡ Some y → x ≡ y
some_is x y e = cc

some_is_none : {X : Type 0} (x : X) → Some x ≡ none_of X → ⊥
some_is_none x e = cc

pub some_of-ok : {X : Type 0} (r : Result (X × List ℕ) Refusal) (x : X) (rest : List ℕ) → some_of r ≡ Ok (Some x, rest) → r ≡ Ok (x, rest)
some_of-ok (Ok (y, a)) x rest e = read_same y x a rest (some_is y x (first_same (Some y) (Some x) a rest e)) (rest_same (Some y) (Some x) a rest e)
some_of-ok (Err f) x rest e = absurd cc

pub some_of-none : {X : Type 0} (r : Result (X × List ℕ) Refusal) (rest : List ℕ) → some_of r ≡ Ok (None, rest) → ⊥
some_of-none {X} (Ok (y, a)) rest e = some_is_none y (first_same (Some y) (none_of X) a rest e)
some_of-none (Err f) rest e = absurd cc

pub none_is_some : {X : Type 0} (x : X) (a rest : List ℕ) → ◌≡◌ {A = Result (Option X × List ℕ) Refusal} (Ok (None, a)) (Ok (Some x, rest)) → ⊥
none_is_some {X} x a rest e = some_is_none x (sym (first_same (none_of X) (Some x) a rest e))

pub none_rest : {X : Type 0} (a rest : List ℕ) → ◌≡◌ {A = Result (Option X × List ℕ) Refusal} (Ok (None, a)) (Ok (None, rest)) → a ≡ rest
none_rest {X} a rest e = rest_same (none_of X) (none_of X) a rest e

-- one character that was wanted stood there
pub token-takes : (wanted : ℕ) (token : Token) (cs rest : List ℕ) → token_at wanted token cs ≡ Ok rest → cs ≡ wanted ∷ rest
token-takes wanted token [] rest e = absurd cc
token-takes wanted token (c ∷ cs) rest e =
    let t = test_ok (eqb c wanted) (Ok cs) (Expected token, c ∷ cs) rest e in
    ap (λ (x : ℕ). x ∷ cs) (eqb-true c wanted t.0) ∙ ap (λ (x : List ℕ). wanted ∷ x) (ok_is {F = Refusal} cs rest t.1)

pub closed-takes : (cs rest : List ℕ) → closed_at cs ≡ Ok rest → (c : ℕ) × (cs ≡ c ∷ rest)
closed-takes [] rest e = absurd cc
closed-takes (c ∷ cs) rest e = (c, ap (λ (x : List ℕ). c ∷ x) (ok_is {F = Refusal} cs rest e))

-- A step against what holds of a list that it gives: where it gives nothing the list ends, and what it gives stands before
-- what the rest of the text gives.
pub record Steps {X : Type 0} (P : List ℕ → Type 0) (Q : List ℕ → List X → List ℕ → Type 0) (step : Step Refusal X) : Type 1 where
  pub shorter : Shortens step
  pub none : (cs rest : List ℕ) → P cs → step cs ≡ Ok (None, rest) → Q cs [] rest
  pub within : (cs a : List ℕ) (x : X) → P cs → step cs ≡ Ok (Some x, a) → P a
  pub one : (cs a : List ℕ) (x : X) → P cs → step cs ≡ Ok (Some x, a) → (xs : List X) (rest : List ℕ) → Q a xs rest → Q cs (x ∷ xs) rest

each_below-takes : {X : Type 0} (n : ℕ) (P : List ℕ → Type 0) (Q : List ℕ → List X → List ℕ → Type 0) (step : Step Refusal X) → Steps P Q step → (cs : List ℕ) (p : List X × List ℕ) → length cs < n → P cs
    → each_below n step cs ≡ Ok p → Q cs p.0 p.1
unfolding each_below
each_below-takes zero P Q step g cs p few within e = absurd (omega arith)
each_below-takes {X} (suc n) P Q step g cs p few within e = by_step (λ rest q less inside is. each_below-takes n P Q step g rest q less inside is) (step cs) refl e
  where
    Holds : List X × List ℕ → Type 0
    Holds q = Q cs q.0 q.1

    by_step : ((rest : List ℕ) (q : List X × List ℕ) → length rest < n → P rest → each_below n step rest ≡ Ok q → Q rest q.0 q.1) → (r : Result (Option X × List ℕ) Refusal) → step cs ≡ r
        → (r >>= λ o. go_on (λ rest. each_below n step rest) o.0 o.1) ≡ Ok p → Holds p
    by_step more (Err f) is d = absurd cc
    by_step more (Ok (None, rest)) is d = given Holds [] rest p d (g.none cs rest within is)
    by_step more (Ok (Some x, rest)) is d =
        let less : length rest < length cs = g.shorter cs rest x is in
        let others = bind_ok (each_below n step rest) (λ q. Ok (x ∷ q.0, q.1)) p d in
        given Holds (x ∷ others.0.0) others.0.1 p others.2 (g.one cs rest x within is others.0.0 others.0.1 (more rest others.0 (omega arith) (g.within cs rest x within is) others.1))

pub each-takes : {X : Type 0} (P : List ℕ → Type 0) (Q : List ℕ → List X → List ℕ → Type 0) (step : Step Refusal X) → Steps P Q step → (cs : List ℕ) (p : List X × List ℕ) → P cs → each step cs ≡ Ok p
    → Q cs p.0 p.1
unfolding each
each-takes P Q step g cs p within e = each_below-takes (suc (length cs)) P Q step g cs p (omega arith) within e
