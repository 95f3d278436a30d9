-- Walks along references.
use Rattle.std.proofs.Common.{◌≡◌, ℕ, zero, suc, List, Contains, refl, sym, subst}
use Rattle.reference_graph.specs.References.{references_of, Walk, IsCircular}
use Rattle.reference_graph.specs.Invariant.{Reaches}

-- a walk may go on with another one
pub goes_on : (R : List (List ℕ)) (a b c n : ℕ) → Walk R a b n → Reaches R b c → Reaches R a c
goes_on R a b c zero p q = subst (λ (x : ℕ). Reaches R x c) (sym p) q
goes_on R a b c (suc n) p q = let r = goes_on R p.0 b c n p.2 q in (suc r.0, (p.0, p.1, r.1))

pub reaches_on : (R : List (List ℕ)) (a b c : ℕ) → Reaches R a b → Reaches R b c → Reaches R a c
reaches_on R a b c p q = goes_on R a b c p.0 p.1 q

pub reaches_itself : (R : List (List ℕ)) (a b : ℕ) → a ≡ b → Reaches R a b
reaches_itself R a b e = (0, e)

pub refers : (R : List (List ℕ)) (a b : ℕ) → Contains (references_of R a) b → Reaches R a b
refers R a b c = (1, (b, c, refl))

-- two numbers that reach each other are circular
pub circular_by : (R : List (List ℕ)) (a b : ℕ) → Reaches R a b → Reaches R b a → (a ≡ b → ⊥) → IsCircular R a
circular_by R a b (zero, e) q ne = absurd (ne e)
circular_by R a b (suc n, w) q ne = let r = goes_on R w.0 b a n w.2 q in (r.0, (w.0, w.1, r.1))

pub circular_at_once : (R : List (List ℕ)) (a : ℕ) → Contains (references_of R a) a → IsCircular R a
circular_at_once R a c = (0, (a, c, refl))

-- a walk stays where all references stay
pub stays : (R : List (List ℕ)) (P : ℕ → Type 0) → ((v r : ℕ) → P v → Contains (references_of R v) r → P r) → (a b n : ℕ) → P a → Walk R a b n → P b
stays R P closed a b zero p w = subst P w p
stays R P closed a b (suc n) p w = stays R P closed w.0 b n (closed a w.0 p w.1) w.2
