-- Looking for a month.
use Rattle.std.proofs.Common.{◌≡◌, ℕ, zero, suc, ◌+◌, ◌-◌, ◌≤◌, Bool, true, false, Some, None, refl, arith, ap, ◌∙◌, List, sym}
use Rattle.std.specs.Prelude.{IsTrue, ◌↔◌}
use Rattle.std.proofs.lemmas.Slice.Eq.{bytes_eq-Decides}
use Rattle.caseless.specs.Caseless.{default_case_fold, IsDefaultMatch}
use Rattle.biblatex_dates.specs.Parts.{first_of, is_same}

one_more : (m : ℕ) → m ≤ 12 → 13 - m ≡ suc (13 - (m + 1))
one_more m small = omega arith

-- the number that passes is the first
pub first_here : (test : ℕ → Bool) (m : ℕ) → m ≤ 12 → test m ≡ true → first_of test (13 - m) m ≡ Some m
first_here test m small t = ap (λ n. first_of test n m) (one_more m small) ∙ rw t refl

-- one that does not is passed over
pub first_later : (test : ℕ → Bool) (m : ℕ) → m ≤ 12 → test m ≡ false → first_of test (13 - m) m ≡ first_of test (13 - (m + 1)) (m + 1)
first_later test m small t = ap (λ n. first_of test n m) (one_more m small) ∙ rw t refl

-- after the last there is none
pub first_none : (test : ℕ → Bool) (m : ℕ) → 13 ≤ m → first_of test (13 - m) m ≡ None
first_none test m great = ap (λ n. first_of test n m) (none_left m great)
  where
    none_left : (k : ℕ) → 13 ≤ k → 13 - k ≡ zero
    none_left k far = omega arith

-- a test that tells whether two texts are one once case is folded
pub same_test : (b : Bool) (xs ys : List ℕ) → (IsTrue b ↔ IsDefaultMatch xs ys) → b ≡ is_same xs ys
same_test true xs ys h = sym ((bytes_eq-Decides (default_case_fold xs) (default_case_fold ys)).1 (h.0 refl))
same_test false xs ys h = by_test (is_same xs ys) refl
  where
    by_test : (t : Bool) → is_same xs ys ≡ t → false ≡ is_same xs ys
    by_test true e = absurd (let k : ◌≡◌ {A = Bool} false true = h.1 ((bytes_eq-Decides (default_case_fold xs) (default_case_fold ys)).0 e) in cc)
    by_test false e = sym e
