-- Where a text is cut.
use Rattle.std.proofs.Common.{◌≡◌, ℕ, zero, suc, ◌<◌, Bool, true, false, List, [], ◌∷◌, ◌++◌, length, take, drop, get_or, Option, Some, None, refl, sym, ap, ◌∙◌, arith}
use Rattle.biblatex_lists.specs.declared.styled_char.StyledChar.{StyledChar}
use Rattle.biblatex_lists.specs.Parts.{before_first}
use Rattle.biblatex_lists.proofs.PartsCut.{before_more}
use Rattle.biblatex_lists.specs.declared.words.Mark.{Mark}
use Rattle.biblatex_lists.specs.Words.{is_mark, prepended, split_once, cut_at}

-- characters put before what stands before a mark
abbrev pub all_prepended : List StyledChar → Option (List StyledChar × List StyledChar) → Option (List StyledChar × List StyledChar)
all_prepended ss None = None
all_prepended ss (Some p) = Some (ss ++ p.0, p.1)

pub prepended_none : (p : Option (List StyledChar × List StyledChar)) → all_prepended [] p ≡ p
prepended_none None = refl
prepended_none (Some p) = refl

prepended_more : (xs : List StyledChar) (s : StyledChar) (p : Option (List StyledChar × List StyledChar)) → prepended s (all_prepended xs p) ≡ all_prepended (s ∷ xs) p
prepended_more xs s None = refl
prepended_more xs s (Some p) = refl

prepended_one : (s : StyledChar) (p : Option (List StyledChar × List StyledChar)) → prepended s p ≡ all_prepended (s ∷ []) p
prepended_one s None = refl
prepended_one s (Some p) = refl

first_none : (s : StyledChar) (ps : List (List StyledChar)) → before_first [] (before_first (s ∷ []) ps) ≡ before_first (s ∷ []) ps
first_none s [] = refl
first_none s (p ∷ ps) = refl

pub cut_prepended_none : (mark : Mark) (ss : List StyledChar) → before_first [] (cut_at mark ss) ≡ cut_at mark ss
cut_prepended_none mark [] = refl
cut_prepended_none mark (s ∷ ss) = by_test (is_mark mark s) refl
  where
    by_test : (b : Bool) → is_mark mark s ≡ b → before_first [] (cut_at mark (s ∷ ss)) ≡ cut_at mark (s ∷ ss)
    by_test true e = rw e refl
    by_test false e = rw e (first_none s (cut_at mark ss))

-- a character that is not the mark stands before the mark
pub one_more_pair : (mark : Mark) (ss : List StyledChar) (i : ℕ) (d : StyledChar) → i < length ss → is_mark mark (get_or ss i d) ≡ false
    → all_prepended (take i ss) (split_once mark (drop i ss)) ≡ all_prepended (take (suc i) ss) (split_once mark (drop (suc i) ss))
one_more_pair mark [] i d below e = absurd (omega arith)
one_more_pair mark (s ∷ ss) zero d below e = rw e (prepended_none (prepended s (split_once mark ss)) ∙ prepended_one s (split_once mark ss))
one_more_pair mark (s ∷ ss) (suc i) d below e =
    sym (prepended_more (take i ss) s (split_once mark (drop i ss)))
    ∙ (ap (prepended s) (one_more_pair mark ss i d (omega arith) e) ∙ prepended_more (take (suc i) ss) s (split_once mark (drop (suc i) ss)))

pub one_more_cut : (mark : Mark) (ss : List StyledChar) (i : ℕ) (d : StyledChar) → i < length ss → is_mark mark (get_or ss i d) ≡ false
    → before_first (take i ss) (cut_at mark (drop i ss)) ≡ before_first (take (suc i) ss) (cut_at mark (drop (suc i) ss))
one_more_cut mark [] i d below e = absurd (omega arith)
one_more_cut mark (s ∷ ss) zero d below e = rw e (first_none s (cut_at mark ss))
one_more_cut mark (s ∷ ss) (suc i) d below e =
    sym (before_more (s ∷ []) (take i ss) (cut_at mark (drop i ss)))
    ∙ (ap (before_first (s ∷ [])) (one_more_cut mark ss i d (omega arith) e) ∙ before_more (s ∷ []) (take (suc i) ss) (cut_at mark (drop (suc i) ss)))

-- where the first mark stands, the text is split
pub pair_here : (mark : Mark) (ss : List StyledChar) (i : ℕ) (d : StyledChar) → i < length ss → is_mark mark (get_or ss i d) ≡ true
    → all_prepended (take i ss) (split_once mark (drop i ss)) ≡ Some (take i ss, drop (suc i) ss)
pair_here mark [] i d below e = absurd (omega arith)
pair_here mark (s ∷ ss) zero d below e = rw e refl
pair_here mark (s ∷ ss) (suc i) d below e =
    sym (prepended_more (take i ss) s (split_once mark (drop i ss))) ∙ ap (prepended s) (pair_here mark ss i d (omega arith) e)

pub cut_here : (mark : Mark) (ss : List StyledChar) (i : ℕ) (d : StyledChar) → i < length ss → is_mark mark (get_or ss i d) ≡ true
    → before_first (take i ss) (cut_at mark (drop i ss)) ≡ take i ss ∷ cut_at mark (drop (suc i) ss)
cut_here mark [] i d below e = absurd (omega arith)
cut_here mark (s ∷ ss) zero d below e = rw e refl
cut_here mark (s ∷ ss) (suc i) d below e =
    sym (before_more (s ∷ []) (take i ss) (cut_at mark (drop i ss))) ∙ ap (before_first (s ∷ [])) (cut_here mark ss i d (omega arith) e)
