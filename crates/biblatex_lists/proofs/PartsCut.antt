-- Where a text is cut.
use Rattle.std.proofs.Common.{◌≡◌, ℕ, zero, suc, ◌-◌, ◌≤◌, ◌<◌, Bool, true, false, cond, List, [], ◌∷◌, ◌++◌, length, take, drop, refl, sym, ap, ◌∙◌, arith, append_assoc}
use Rattle.std.proofs.lemmas.List.{append-nil, length-drop}
use Rattle.std.proofs.Math.Seq.{take-length}
use Rattle.biblatex_lists.specs.declared.styled_char.StyledChar.{StyledChar}
use Rattle.biblatex_lists.specs.Parts.{begins_and, before_first, cut_after, cut}

-- nothing before the first part changes no part
pub before_none : (n : ℕ) (ss : List StyledChar) → before_first [] (cut_after n ss) ≡ cut_after n ss
before_none n [] = refl
before_none (suc n) (s ∷ ss) = before_none n ss
before_none zero (s ∷ ss) = by_test (begins_and (s ∷ ss)) (cut_after 0 ss)
  where
    by_test : (b : Bool) (ps : List (List StyledChar)) → before_first [] (cond b ([] ∷ cut_after 3 ss) (before_first (s ∷ []) ps)) ≡ cond b ([] ∷ cut_after 3 ss) (before_first (s ∷ []) ps)
    by_test true ps = refl
    by_test false [] = refl
    by_test false (p ∷ ps) = refl

-- characters before characters before the first part
pub before_more : (xs ys : List StyledChar) (ps : List (List StyledChar)) → before_first xs (before_first ys ps) ≡ before_first (xs ++ ys) ps
before_more xs ys [] = refl
before_more xs ys (p ∷ ps) = ap (λ (q : List StyledChar). q ∷ ps) (sym (append_assoc xs ys p))

-- a text that does not begin with a word `and` is not cut at its start
pub cut_goes_on : (s : StyledChar) (ss : List StyledChar) → begins_and (s ∷ ss) ≡ false → cut (s ∷ ss) ≡ before_first (s ∷ []) (cut ss)
cut_goes_on s ss e = rw e refl

-- a text that begins with a word `and` is cut at its start
pub cut_here : (ss : List StyledChar) → begins_and ss ≡ true → cut ss ≡ [] ∷ cut (drop 4 ss)
cut_here [] e = absurd cc
cut_here (s ∷ []) e = absurd cc
cut_here (s ∷ a ∷ []) e = absurd cc
cut_here (s ∷ a ∷ n ∷ []) e = absurd cc
cut_here (s ∷ a ∷ n ∷ d ∷ []) e = absurd cc
cut_here (s ∷ a ∷ n ∷ d ∷ t ∷ ss) e = rw e refl

-- the word and the white space round it are five characters
pub and_is_long : (ss : List StyledChar) → begins_and ss ≡ true → 5 ≤ length ss
and_is_long [] e = absurd cc
and_is_long (s ∷ []) e = absurd cc
and_is_long (s ∷ a ∷ []) e = absurd cc
and_is_long (s ∷ a ∷ n ∷ []) e = absurd cc
and_is_long (s ∷ a ∷ n ∷ d ∷ []) e = absurd cc
and_is_long (s ∷ a ∷ n ∷ d ∷ t ∷ ss) e = omega arith

-- a character before which there is no cut is of the first part
pub one_more_uncut : (ss : List StyledChar) (i : ℕ) → i < length ss → begins_and (drop i ss) ≡ false → before_first (take i ss) (cut (drop i ss)) ≡ before_first (take (suc i) ss) (cut (drop (suc i) ss))
one_more_uncut [] i below e = absurd (omega arith)
one_more_uncut (s ∷ ss) zero below e = before_none 0 (s ∷ ss) ∙ cut_goes_on s ss e
one_more_uncut (s ∷ ss) (suc i) below e =
    sym (before_more (s ∷ []) (take i ss) (cut (drop i ss)))
    ∙ (ap (before_first (s ∷ [])) (one_more_uncut ss i (omega arith) e) ∙ before_more (s ∷ []) (take (suc i) ss) (cut (drop (suc i) ss)))

-- what stands before the first cut is the first part
pub cut_first : (ss : List StyledChar) (i : ℕ) → cut ss ≡ before_first (take i ss) (cut (drop i ss)) → begins_and (drop i ss) ≡ true → cut ss ≡ take i ss ∷ cut (drop 4 (drop i ss))
cut_first ss i so_far e = so_far ∙ (ap (before_first (take i ss)) (cut_here (drop i ss) e) ∙ ap (λ (p : List StyledChar). p ∷ cut (drop 4 (drop i ss))) (append-nil (take i ss)))

-- what follows an index, as a slice to the end
pub slice_to_end : {A : Type 0} (xs : List A) (k : ℕ) → take (length xs - k) (drop k xs) ≡ drop k xs
slice_to_end xs k = rw (sym (length-drop k xs)) (take-length (drop k xs))
