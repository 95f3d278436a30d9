-- White space at the ends of a text.
use Rattle.std.proofs.Common.{◌≡◌, ℕ, suc, ◌<◌, ◌≤◌, ◌+◌, ◌-◌, true, false, List, [], ◌∷◌, ◌++◌, length, take, drop, get_or, refl, ap, ◌∙◌, arith}
use Rattle.std.proofs.Math.Seq.{take-suc, drop-cons}
use Rattle.biblatex_lists.specs.declared.styled_char.StyledChar.{StyledChar}
use Rattle.biblatex_lists.specs.StyledChars.{is_gap}
use Rattle.biblatex_lists.specs.Parts.{without_first_gaps, before_others, without_last_gaps}

pub first_gap : (ss : List StyledChar) (i : ℕ) (d : StyledChar) → i < length ss → is_gap (get_or ss i d) ≡ true → without_first_gaps (drop i ss) ≡ without_first_gaps (drop (suc i) ss)
first_gap ss i d below e = rw (drop-cons ss i d below) (by_test (get_or ss i d) (drop (suc i) ss) e)
  where
    by_test : (s : StyledChar) (rest : List StyledChar) → is_gap s ≡ true → without_first_gaps (s ∷ rest) ≡ without_first_gaps rest
    by_test s rest t = rw t refl

pub first_no_gap : (ss : List StyledChar) (i : ℕ) (d : StyledChar) → i < length ss → is_gap (get_or ss i d) ≡ false → without_first_gaps (drop i ss) ≡ drop i ss
first_no_gap ss i d below e = rw (drop-cons ss i d below) (by_test (get_or ss i d) (drop (suc i) ss) e)
  where
    by_test : (s : StyledChar) (rest : List StyledChar) → is_gap s ≡ false → without_first_gaps (s ∷ rest) ≡ s ∷ rest
    by_test s rest t = rw t refl

gap_at_end : (ss : List StyledChar) (s : StyledChar) → is_gap s ≡ true → without_last_gaps (ss ++ s ∷ []) ≡ without_last_gaps ss
gap_at_end [] s e = rw e refl
gap_at_end (t ∷ ss) s e = ap (before_others t) (gap_at_end ss s e)

before_others_some : (t : StyledChar) (ss : List StyledChar) (s : StyledChar) → before_others t (ss ++ s ∷ []) ≡ t ∷ ss ++ s ∷ []
before_others_some t [] s = refl
before_others_some t (u ∷ ss) s = refl

no_gap_at_end : (ss : List StyledChar) (s : StyledChar) → is_gap s ≡ false → without_last_gaps (ss ++ s ∷ []) ≡ ss ++ s ∷ []
no_gap_at_end [] s e = rw e refl
no_gap_at_end (t ∷ ss) s e = ap (before_others t) (no_gap_at_end ss s e) ∙ before_others_some t ss s

pub last_gap : (ss : List StyledChar) (i : ℕ) (d : StyledChar) → i < length ss → is_gap (get_or ss i d) ≡ true → without_last_gaps (take (suc i) ss) ≡ without_last_gaps (take i ss)
last_gap ss i d below e = rw (take-suc ss i d below) (gap_at_end (take i ss) (get_or ss i d) e)

pub last_no_gap : (ss : List StyledChar) (i : ℕ) (d : StyledChar) → i < length ss → is_gap (get_or ss i d) ≡ false → without_last_gaps (take (suc i) ss) ≡ take (suc i) ss
last_no_gap ss i d below e = rw (take-suc ss i d below) (no_gap_at_end (take i ss) (get_or ss i d) e)

-- the same where the index is one below another
pub last_gap_below : (ss : List StyledChar) (i : ℕ) (d : StyledChar) → 0 < i → i ≤ length ss → is_gap (get_or ss (i - 1) d) ≡ true → without_last_gaps (take i ss) ≡ without_last_gaps (take (i - 1) ss)
last_gap_below ss i d some below e =
    let same : i ≡ suc (i - 1) = omega arith in
    ap (λ (k : ℕ). without_last_gaps (take k ss)) same ∙ last_gap ss (i - 1) d (omega arith) e

pub last_no_gap_below : (ss : List StyledChar) (i : ℕ) (d : StyledChar) → 0 < i → i ≤ length ss → is_gap (get_or ss (i - 1) d) ≡ false → without_last_gaps (take i ss) ≡ take (i - 1 + 1) ss
last_no_gap_below ss i d some below e =
    let same : i ≡ suc (i - 1) = omega arith in
    let more : suc (i - 1) ≡ i - 1 + 1 = omega arith in
    ap (λ (k : ℕ). without_last_gaps (take k ss)) same ∙ (last_no_gap ss (i - 1) d (omega arith) e ∙ ap (λ (k : ℕ). take k ss) more)
