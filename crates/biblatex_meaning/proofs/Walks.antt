-- Which numbers a number leads to. Walks are sorted by a bound on the numbers in between, so that whether there is one is decided by
-- recursion on the bound.
use Rattle.std.proofs.Common.{◌≡◌, ℕ, zero, suc, ◌<◌, List, length, Contains, ◌⊎◌, inl, inr, refl, subst, arith}
use Rattle.std.proofs.lemmas.Bool.{cases_lt}
use Rattle.reference_graph.specs.References.{references_of, Walk, IsCircular}
use Rattle.reference_graph.proofs.ReferencesWalks.{goes_on}
use Rattle.biblatex_inheritance.proofs.SolutionAlong.{refers_below}
use Rattle.biblatex_meaning.proofs.Decided.{Decided, either, both, same_as, contains}

-- one reference or more lead from a to b
abbrev pub Leads : List (List ℕ) → ℕ → ℕ → Type 0
Leads R a b = (n : ℕ) × Walk R a b (suc n)

pub leads_on : (R : List (List ℕ)) (a b c : ℕ) → Leads R a b → Leads R b c → Leads R a c
leads_on R a b c (n, (d, has, walk)) (m, more) = let r = goes_on R d b c n walk (suc m, more) in (r.0, (d, has, r.1))

-- the same where all numbers in between are below the bound
abbrev pub Through : List (List ℕ) → ℕ → ℕ → ℕ → Type 0
Through R zero a b = Contains (references_of R a) b
Through R (suc k) a b = Through R k a b ⊎ (Through R k a k × Through R k k b)

pub leads : (R : List (List ℕ)) (k a b : ℕ) → Through R k a b → Leads R a b
leads R zero a b has = (0, (b, has, refl))
leads R (suc k) a b (inl less) = leads R k a b less
leads R (suc k) a b (inr (to, from)) = leads_on R a k b (leads R k a k to) (leads R k k b from)

pub at_once : (R : List (List ℕ)) (k a b : ℕ) → Contains (references_of R a) b → Through R k a b
at_once R zero a b has = has
at_once R (suc k) a b has = inl (at_once R k a b has)

-- one after the other, where they meet below the bound
pub through_on : (R : List (List ℕ)) (k a c b : ℕ) → c < k → Through R k a c → Through R k c b → Through R k a b
through_on R zero a c b low p q = absurd (omega (arith, low))
through_on R (suc k) a c b low p q = elim (cases_lt c k) [
  | inl less ↦ below (λ x y. through_on R k x c y less) p q
  | inr more ↦ let same : c ≡ k = omega (arith, low, more) in at_last (subst (λ (x : ℕ). Through R (suc k) a x) same p) (subst (λ (x : ℕ). Through R (suc k) x b) same q)
]
  where
    below : ((x y : ℕ) → Through R k x c → Through R k c y → Through R k x y) → Through R (suc k) a c → Through R (suc k) c b → Through R (suc k) a b
    below on (inl p) (inl q) = inl (on a b p q)
    below on (inl p) (inr (q, r)) = inr (on a k p q, r)
    below on (inr (p, q)) (inl r) = inr (p, on k b q r)
    below on (inr (p, q)) (inr (r, s)) = inr (p, s)

    at_last : Through R (suc k) a k → Through R (suc k) k b → Through R (suc k) a b
    at_last (inl p) (inl q) = inr (p, q)
    at_last (inl p) (inr (q, r)) = inr (p, r)
    at_last (inr (p, q)) (inl r) = inr (p, r)
    at_last (inr (p, q)) (inr (r, s)) = inr (p, s)

-- all numbers in between have references, so they are below the count
pub through_all : (R : List (List ℕ)) (a b n : ℕ) → Walk R a b (suc n) → Through R (length R) a b
through_all R a b zero (c, has, same) = at_once R (length R) a b (subst (λ (x : ℕ). Contains (references_of R a) x) same has)
through_all R a b (suc n) (c, has, walk) = through_on R (length R) a c b (refers_below R c walk.0 walk.1) (at_once R (length R) a c has) (through_all R c b n walk)

pub through : (R : List (List ℕ)) (k a b : ℕ) → Decided (Through R k a b)
through R zero a b = contains (references_of R a) b
through R (suc k) a b = either (through R k a b) (both (through R k a k) (through R k k b))

-- whether a number reaches itself
pub circular : (R : List (List ℕ)) (i : ℕ) → Decided (IsCircular R i)
circular R i = same_as (leads R (length R) i i) (λ c. through_all R i i c.0 c.1) (through R (length R) i i)
