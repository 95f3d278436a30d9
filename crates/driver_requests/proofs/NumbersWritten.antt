-- Numbers of entries, while they are written from the last to the first.
use Rattle.std.proofs.Common.{◌≡◌, ◌⊎◌, ℕ, ◌+◌, ◌<◌, List, ◌∷◌, length, get_or, set, drop, refl, sym, subst, ◌∙◌, inl, inr, arith, eq-eqb, ne_eqb, nat_eq}
use Rattle.std.specs.List.{position_or_len}
use Rattle.std.proofs.lemmas.List.{get_or-set_same, get_or-set_other, at_drop_more}
use Rattle.std.proofs.lemmas.Bool.{cases_eq}

written_cases : (numbers : List ℕ) (offset i q p : ℕ) (rest : List ℕ) → q < length numbers
    → get_or numbers q 0 ≡ offset + (i + 1) + position_or_len (nat_eq q) rest
    → (q ≡ p) ⊎ (q ≡ p → ⊥)
    → get_or (set numbers p (offset + i)) q 0 ≡ offset + i + position_or_len (nat_eq q) (p ∷ rest)
written_cases numbers offset i q p rest h before (inl e) =
    subst (λ z. get_or (set numbers z (offset + i)) q 0 ≡ offset + i + position_or_len (nat_eq q) (z ∷ rest)) e
    (get_or-set_same numbers q (offset + i) 0 h ∙ rw (eq-eqb q q refl) (omega arith))
written_cases numbers offset i q p rest h before (inr ne) =
    get_or-set_other numbers p q (offset + i) 0 ne ∙ before ∙ rw (ne_eqb q p ne) (omega arith)

-- the number at an index is written
pub number_written : (order numbers : List ℕ) (offset i q : ℕ) → i < length order → q < length numbers
    → get_or numbers q 0 ≡ offset + (i + 1) + position_or_len (nat_eq q) (drop (i + 1) order)
    → get_or (set numbers (get_or order i 0) (offset + i)) q 0 ≡ offset + i + position_or_len (nat_eq q) (drop i order)
number_written order numbers offset i q here there before =
    written_cases numbers offset i q (get_or order i 0) (drop (i + 1) order) there before (cases_eq q (get_or order i 0))
    ∙ sym (at_drop_more (λ xs. offset + i + position_or_len (nat_eq q) xs) order i 0 here)

-- all numbers are written
pub all_written : (order : List ℕ) (offset q i : ℕ) → i ≡ 0 → offset + i + position_or_len (nat_eq q) (drop i order) ≡ offset + position_or_len (nat_eq q) order
all_written order offset q i e = subst (λ n. offset + n + position_or_len (nat_eq q) (drop n order) ≡ offset + position_or_len (nat_eq q) order) (sym e) (omega arith)
