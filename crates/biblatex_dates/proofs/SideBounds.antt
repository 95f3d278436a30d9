-- Four digits, or another number of them.
use Rattle.std.proofs.Common.{◌≡◌, ℕ, ◌&&◌, true, false, arith, leb, eqb, refl}
use Rattle.std.proofs.lemmas.Bool.Decides.{nat_tests}

pub is_four : (n : ℕ) → n ≡ 4 → leb 4 n && leb n 4 ≡ true
is_four n e = rw e refl

pub is_other : (n : ℕ) → (n ≡ 4 → ⊥) → eqb n 4 ≡ false
is_other n e = grind (arith, nat_tests)
