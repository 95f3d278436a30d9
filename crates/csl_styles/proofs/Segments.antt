-- What follows the last slash of a text.
use Rattle.std.proofs.Common.{◌≡◌, ℕ, suc, ◌<◌, ◌+◌, Bool, true, false, cond, not, List, [], ◌∷◌, length, eqb, Option, Some, None, refl, sym, ap, ◌∙◌, arith}
use Rattle.std.specs.Prelude.{MatchOption}
use Rattle.std.specs.Borrow.{Bor}
use Rattle.std.specs.List.{slice_split, position_or_len, before_first, after_first, onto_first}
use Rattle.std.proofs.lemmas.List.Splits.{slice_split_first}
use Rattle.laws.specs.Characters.{slash}
use Rattle.csl_styles.specs.Information.{last_or}

-- a text without a slash
no_slash : (bs : List ℕ) → position_or_len (λ b. eqb b slash) bs ≡ length bs → slice_split (λ b. eqb b slash) bs ≡ bs ∷ []
no_slash [] e = refl
no_slash (b ∷ bs) e = by_test (eqb b slash) (no_slash bs) e
  where
    by_test : (is : Bool) → (position_or_len (λ b. eqb b slash) bs ≡ length bs → slice_split (λ b. eqb b slash) bs ≡ bs ∷ [])
        → cond (not is) (1 + position_or_len (λ b. eqb b slash) bs) 0 ≡ suc (length bs)
        → cond is ([] ∷ slice_split (λ b. eqb b slash) bs) (onto_first b (slice_split (λ b. eqb b slash) bs)) ≡ (b ∷ bs) ∷ []
    by_test true more at = absurd (omega arith)
    by_test false more at = ap (onto_first b) (more (omega arith))

pub slashes : (bs : List ℕ) (r : Option (Bor (List ℕ) × Bor (List ℕ)))
    → MatchOption r (position_or_len (λ b. eqb b slash) bs ≡ length bs) (λ x. (position_or_len (λ b. eqb b slash) bs < length bs) × (x.0.now ≡ before_first (λ b. eqb b slash) bs) × (x.1.now ≡ after_first (λ b. eqb b slash) bs))
    → MatchOption r (slice_split (λ b. eqb b slash) bs ≡ bs ∷ []) (λ x. slice_split (λ b. eqb b slash) bs ≡ x.0.now ∷ slice_split (λ b. eqb b slash) x.1.now)
slashes bs None h = no_slash bs h
slashes bs (Some x) h = rw (h.1, h.2) (slice_split_first (λ b. eqb b slash) bs 0 h.0)

-- what is before the parts does not count, since there is one at least
onto_last : (b : ℕ) (d e : List ℕ) (parts : List (List ℕ)) (p : List ℕ) → last_or d (onto_first b (p ∷ parts)) ≡ last_or e (onto_first b (p ∷ parts))
onto_last b d e parts p = refl

pub last_anyhow : (d e bs : List ℕ) → last_or d (slice_split (λ b. eqb b slash) bs) ≡ last_or e (slice_split (λ b. eqb b slash) bs)
last_anyhow d e [] = refl
last_anyhow d e (b ∷ bs) = by_test (eqb b slash) (slice_split (λ b. eqb b slash) bs)
  where
    by_test : (is : Bool) (parts : List (List ℕ)) → last_or d (cond is ([] ∷ parts) (onto_first b parts)) ≡ last_or e (cond is ([] ∷ parts) (onto_first b parts))
    by_test true parts = refl
    by_test false [] = refl
    by_test false (p ∷ parts) = refl

-- the part before the first slash is not the last
pub last_on : (bs before more all : List ℕ) → slice_split (λ b. eqb b slash) bs ≡ before ∷ slice_split (λ b. eqb b slash) more → last_or [] (slice_split (λ b. eqb b slash) bs) ≡ all
    → last_or [] (slice_split (λ b. eqb b slash) more) ≡ all
last_on bs before more all split so_far = last_anyhow [] before more ∙ (sym (ap (last_or []) split) ∙ so_far)

pub last_alone : (bs all : List ℕ) → slice_split (λ b. eqb b slash) bs ≡ bs ∷ [] → last_or [] (slice_split (λ b. eqb b slash) bs) ≡ all → bs ≡ all
last_alone bs all split so_far = sym (ap (last_or []) split) ∙ so_far
