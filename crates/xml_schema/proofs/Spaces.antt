-- A text cut at its first space, and at all of its spaces.
use Rattle.std.proofs.Common.{◌≡◌, ℕ, suc, ◌<◌, ◌+◌, Bool, true, false, cond, not, List, [], ◌∷◌, length, eqb, Option, Some, None, Bor, refl, ap, arith}
use Rattle.std.specs.Prelude.{MatchOption}
use Rattle.std.specs.List.{slice_split, position_or_len, before_first, after_first, onto_first}
use Rattle.std.proofs.lemmas.List.Splits.{slice_split_first}
use Rattle.laws.specs.Characters.{space}

no_space : (bs : List ℕ) → position_or_len (λ b. eqb b space) bs ≡ length bs → slice_split (λ b. eqb b space) bs ≡ bs ∷ []
no_space [] e = refl
no_space (b ∷ bs) e = by_test (eqb b space) (no_space bs) e
  where
    by_test : (is : Bool) → (position_or_len (λ b. eqb b space) bs ≡ length bs → slice_split (λ b. eqb b space) bs ≡ bs ∷ [])
        → cond (not is) (1 + position_or_len (λ b. eqb b space) bs) 0 ≡ suc (length bs)
        → cond is ([] ∷ slice_split (λ b. eqb b space) bs) (onto_first b (slice_split (λ b. eqb b space) bs)) ≡ (b ∷ bs) ∷ []
    by_test true more at = absurd (omega arith)
    by_test false more at = ap (onto_first b) (more (omega arith))

pub spaces : (bs : List ℕ) (r : Option (Bor (List ℕ) × Bor (List ℕ)))
    → MatchOption r (position_or_len (λ b. eqb b space) bs ≡ length bs) (λ x. (position_or_len (λ b. eqb b space) bs < length bs) × (x.0.now ≡ before_first (λ b. eqb b space) bs) × (x.1.now ≡ after_first (λ b. eqb b space) bs))
    → MatchOption r (slice_split (λ b. eqb b space) bs ≡ bs ∷ []) (λ x. slice_split (λ b. eqb b space) bs ≡ x.0.now ∷ slice_split (λ b. eqb b space) x.1.now)
spaces bs None h = no_space bs h
spaces bs (Some x) h = rw (h.1, h.2) (slice_split_first (λ b. eqb b space) bs 0 h.0)
