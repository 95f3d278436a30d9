-- Statements that are true or false, and the first number of which one is true.
use Rattle.std.proofs.Common.{◌≡◌, ℕ, zero, suc, ◌<◌, ◌↔◌, Bool, true, false, true≢false, IsTrue, List, [], ◌∷◌, Contains, ◌⊎◌, inl, inr, refl, sym, subst, arith}
use Rattle.std.proofs.lemmas.Bool.{cases_eq, cases_lt}

abbrev pub Decided : Type 0 → Type 0
Decided P = P ⊎ (P → ⊥)

pub either : {P Q : Type 0} → Decided P → Decided Q → Decided (P ⊎ Q)
either (inl p) q = inl (inl p)
either (inr no_p) (inl q) = inl (inr q)
either {P} {Q} (inr no_p) (inr no_q) = inr neither
  where
    neither : P ⊎ Q → ⊥
    neither (inl p) = no_p p
    neither (inr q) = no_q q

pub both : {P Q : Type 0} → Decided P → Decided Q → Decided (P × Q)
both (inl p) (inl q) = inl (p, q)
both (inl p) (inr no_q) = inr (λ h. no_q h.1)
both (inr no_p) q = inr (λ h. no_p h.0)

pub same_as : {P Q : Type 0} → (P → Q) → (Q → P) → Decided P → Decided Q
same_as f g (inl p) = inl (f p)
same_as f g (inr no_p) = inr (λ q. no_p (g q))

-- whether it is true
abbrev pub is_true : {P : Type 0} → Decided P → Bool
is_true (inl p) = true
is_true (inr no_p) = false

pub tells : {P : Type 0} → (d : Decided P) → IsTrue (is_true d) ↔ P
tells (inl p) = (λ e. p, λ q. refl)
tells (inr no_p) = (λ e. absurd (true≢false (sym e)), λ q. absurd (no_p q))

-- whether a number stands in a list
pub contains : (xs : List ℕ) (x : ℕ) → Decided (Contains xs x)
contains [] x = inr (λ c. absurd (omega (arith, c.1)))
contains (y ∷ xs) x = by (cases_eq y x) (contains xs x)
  where
    neither : (y ≡ x → ⊥) → (Contains xs x → ⊥) → Contains (y ∷ xs) x → ⊥
    neither apart none (zero, low, is) = apart is
    neither apart none (suc k, low, is) = none (k, omega (arith, low), is)

    by : (y ≡ x) ⊎ (y ≡ x → ⊥) → Decided (Contains xs x) → Decided (Contains (y ∷ xs) x)
    by (inl same) rest = inl (0, omega arith, same)
    by (inr apart) (inl c) = inl (suc c.0, omega (arith, c.1), c.2)
    by (inr apart) (inr none) = inr (neither apart none)

-- the first number of which it is true
abbrev pub FirstBelow : (ℕ → Type 0) → ℕ → Type 0
FirstBelow P n = (i : ℕ) × (i < n) × P i × ((k : ℕ) → k < i → P k → ⊥)

abbrev pub NoneBelow : (ℕ → Type 0) → ℕ → Type 0
NoneBelow P n = (i : ℕ) → i < n → P i → ⊥

-- of the numbers below a bound it is true of one first, or of none
pub first_or_none : (P : ℕ → Type 0) → ((i : ℕ) → Decided (P i)) → (n : ℕ) → FirstBelow P n ⊎ NoneBelow P n
first_or_none P d zero = inr (λ i low p. absurd (omega (arith, low)))
first_or_none P d (suc n) = by (first_or_none P d n) (d n)
  where
    none_more : NoneBelow P n → (P n → ⊥) → NoneBelow P (suc n)
    none_more none no_p i low p = elim (cases_lt i n) [
      | inl less ↦ none i less p
      | inr more ↦ no_p (let same : i ≡ n = omega (arith, low, more) in subst P same p)
    ]

    by : FirstBelow P n ⊎ NoneBelow P n → Decided (P n) → FirstBelow P (suc n) ⊎ NoneBelow P (suc n)
    by (inl f) d = inl (f.0, omega (arith, f.1), f.2, f.3)
    by (inr none) (inl p) = inl (n, omega arith, p, none)
    by (inr none) (inr no_p) = inr (none_more none no_p)
