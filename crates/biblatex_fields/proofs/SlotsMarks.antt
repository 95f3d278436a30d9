-- A slot more that is marked.
use Rattle.std.proofs.Common.{◌≡◌, ℕ, ◌*◌, ◌%◌, ◌<◌, ◌^◌, Bool, true, false, ◌==◌, ◌||◌, nat_eq, bit_or, w64, refl, sym, ap, subst, ◌∙◌, eqb-true, true≢false, eq-eqb}
use Rattle.std.specs.Int.{bit_at}
use Rattle.std.proofs.lemmas.Nat.Bits.{bit_at_set_same, bit_at_set_other}

-- the bits that are set are those that were set and the one that is marked
pub marked_too : (marks index : ℕ) → index < 64 → (i : ℕ) → (bit_at (bit_or marks (1 * 2 ^ index % 18446744073709551616)) i == 1) ≡ (i == index || bit_at marks i == 1)
marked_too marks index within i = by_index (i == index) refl
  where
    by_index : (b : Bool) → (i == index) ≡ b → (bit_at (bit_or marks (1 * 2 ^ index % 18446744073709551616)) i == 1) ≡ (b || bit_at marks i == 1)
    by_index true same = ap (λ (n : ℕ). nat_eq n 1) (subst (λ (n : ℕ). bit_at (bit_or marks (1 * 2 ^ index % 18446744073709551616)) n ≡ 1) (sym (eqb-true i index same)) (bit_at_set_same w64 marks index within))
    by_index false apart = ap (λ (n : ℕ). nat_eq n 1) (bit_at_set_other w64 marks index within i (λ e. true≢false (sym (eq-eqb i index e) ∙ apart)))
