-- A delimiter has one white space at its end.
use Rattle.std.proofs.Common.{◌≡◌, ℕ, Bool, true, false, true≢false, cond, ◌&&◌, eqb, List, [], ◌∷◌, ◌++◌, length, drop, refl, ap, ◌∙◌, arith}
use Rattle.std.proofs.lemmas.Bool.{eqb-true, ne_eqb}
use Rattle.std.specs.Char.{is_whitespace}
use Rattle.std.specs.Str.{drop_trailing_whitespace}
use Rattle.laws.specs.Runs.{AllPassTest}
use Rattle.literature_grammar.specs.Initials.{EndsFilled, IsDelimiter}

-- what is kept of white space alone
nothing_kept : (gap : List ℕ) → AllPassTest is_whitespace gap → drop_trailing_whitespace gap ≡ []
nothing_kept [] all = refl
nothing_kept (c ∷ gap) all =
    let white = all.0 in
    let none = nothing_kept gap all.1 in
    rw (white, none) refl

and_false : (a : Bool) → a && false ≡ false
and_false true = refl
and_false false = refl

kept : (t gap : List ℕ) → EndsFilled t → AllPassTest is_whitespace gap → drop_trailing_whitespace (t ++ gap) ≡ t
kept [] gap filled all = nothing_kept gap all
kept (c ∷ []) gap filled all =
    let black : is_whitespace c ≡ false = filled in
    let none = nothing_kept gap all in
    rw (black, none) refl
kept (c ∷ d ∷ t) gap filled all =
    let long : eqb (length (d ∷ t)) 0 ≡ false = ne_eqb (length (d ∷ t)) 0 (λ e. omega (arith, e)) in
    ap (λ (x : List ℕ). cond (is_whitespace c && eqb (length x) 0) [] (c ∷ x)) (kept (d ∷ t) gap filled all)
    ∙ (ap (λ (b : Bool). cond (is_whitespace c && b) [] (c ∷ d ∷ t)) long ∙ ap (λ (b : Bool). cond b [] (c ∷ d ∷ t)) (and_false (is_whitespace c)))

left : (t gap : List ℕ) → drop (length t) (t ++ gap) ≡ gap
left [] gap = refl
left (c ∷ t) gap = left t gap

-- the white space that a delimiter ends with
abbrev gap_of : List ℕ → List ℕ
gap_of cs = drop (length (drop_trailing_whitespace cs)) cs

pub delimiter_unique : (cs t gap : List ℕ) → IsDelimiter cs t gap → (drop_trailing_whitespace cs ≡ t) × (gap_of cs ≡ gap)
delimiter_unique cs t gap (e, filled, all) =
    let first : drop_trailing_whitespace cs ≡ t = ap drop_trailing_whitespace e ∙ kept t gap filled all in
    (first, (λ i. drop (length (first i)) (e i)) ∙ left t gap)

pub delimiter_is : (cs : List ℕ) → IsDelimiter cs (drop_trailing_whitespace cs) (gap_of cs)
delimiter_is [] = (refl, tt, tt)
delimiter_is (c ∷ cs) = by_tests (drop_trailing_whitespace cs) (delimiter_is cs) (is_whitespace c) (eqb (length (drop_trailing_whitespace cs)) 0) refl refl
  where
    by_tests : (d : List ℕ) → IsDelimiter cs d (drop (length d) cs) → (b z : Bool) → is_whitespace c ≡ b → eqb (length d) 0 ≡ z
        → IsDelimiter (c ∷ cs) (cond (b && z) [] (c ∷ d)) (drop (length (cond (b && z) [] (c ∷ d))) (c ∷ cs))
    by_tests [] (parts, filled, all) true true w e = (refl, tt, (w, all))
    by_tests [] (parts, filled, all) true false w e = absurd (true≢false e)
    by_tests [] (parts, filled, all) false z w e = (ap (λ (x : List ℕ). c ∷ x) parts, w, all)
    by_tests (d ∷ ds) (parts, filled, all) true true w e = absurd (omega (arith, eqb-true (length (d ∷ ds)) 0 e))
    by_tests (d ∷ ds) (parts, filled, all) true false w e = (ap (λ (x : List ℕ). c ∷ x) parts, filled, all)
    by_tests (d ∷ ds) (parts, filled, all) false z w e = (ap (λ (x : List ℕ). c ∷ x) parts, filled, all)
