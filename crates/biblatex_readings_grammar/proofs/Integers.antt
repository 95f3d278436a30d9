-- Integers of the grammar are those that are read.
use Rattle.std.proofs.Common.{◌≡◌, ℕ, ◌≤◌, ◌<◌, ◌^◌, Bool, true, false, cond, ◌&&◌, eqb, ltb, leb, List, [], ◌∷◌, length, Result, Ok, Err, ℤ, pos, neg_ℤ, refl, sym, ap, ◌∙◌, subst, inl, inr, arith}
use Rattle.std.proofs.lemmas.Bool.{eqb-true, ltb-true, lt-ltb, leb-true, le-leb, and_parts, and_from}
use Rattle.std.proofs.lemmas.Bool.Decides.{nat_tests}
use Rattle.std.specs.Char.{is_ascii_digit}
use Rattle.std.specs.Str.{all_ascii_digits}
use Rattle.std.specs.Str.Parse.{digits_value}
use Rattle.laws.specs.Runs.{AllPassTest}
use Rattle.laws.proofs.Results.{test_ok, ok_is}
use Rattle.biblatex_dates.specs.declared.error.TypeErrorKind.{TypeErrorKind}
use Rattle.biblatex_dates.specs.declared.error.TypeErrorKind.TheVariants.{Unreadable}
use Rattle.biblatex_values.specs.Integer.{is_numeral, natural_of, negative_of, integer_of}
use Rattle.biblatex_readings_grammar.specs.Integers.{AreDigits, IsInteger}

digits_all : (t : List ℕ) → AllPassTest is_ascii_digit t → all_ascii_digits t ≡ true
digits_all [] all = refl
digits_all (d ∷ t) all = let p = all.0 in rw p (digits_all t all.1)

all_digits : (t : List ℕ) → all_ascii_digits t ≡ true → AllPassTest is_ascii_digit t
all_digits [] all = tt
all_digits (d ∷ t) all = let b = and_parts (is_ascii_digit d) (all_ascii_digits t) all in (b.0, all_digits t b.1)

digits-again : (bs : List ℕ) (n : ℕ) → AreDigits bs n → is_numeral bs ≡ true
digits-again bs n (all, some, e) = and_from _ _ (digits_all bs all) (lt-ltb 0 (length bs) some)

digits-take : (bs : List ℕ) → is_numeral bs ≡ true → AreDigits bs (digits_value 10 bs)
digits-take bs e =
    let b = and_parts (all_ascii_digits bs) (ltb 0 (length bs)) e in
    (all_digits bs b.0, ltb-true _ _ b.1, refl)

natural-again : (bs : List ℕ) (n : ℕ) → AreDigits bs n → n < 2 ^ 63 → natural_of bs ≡ Ok (pos n)
natural-again bs n are small =
    let numeral = digits-again bs n are in
    let few : ltb (digits_value 10 bs) (2 ^ 63) ≡ true = lt-ltb _ _ (subst (λ (k : ℕ). k < 2 ^ 63) are.2 small) in
    rw (numeral, few) (ap (λ (k : ℕ). Ok (pos k)) (sym are.2))

negative-again : (bs : List ℕ) (n : ℕ) → AreDigits bs n → n ≤ 2 ^ 63 → negative_of bs ≡ Ok (neg_ℤ (pos n))
negative-again bs n are small =
    let numeral = digits-again bs n are in
    let few : leb (digits_value 10 bs) (2 ^ 63) ≡ true = le-leb _ _ (subst (λ (k : ℕ). k ≤ 2 ^ 63) are.2 small) in
    rw (numeral, few) (ap (λ (k : ℕ). Ok (neg_ℤ (pos k))) (sym are.2))

no_hyphen : (b : ℕ) → is_ascii_digit b ≡ true → eqb b 45 ≡ false
no_hyphen b is = grind (arith, nat_tests)

-- digits have no hyphen before them
plain : (bs : List ℕ) (n : ℕ) → AreDigits bs n → integer_of bs ≡ natural_of bs
plain [] n (all, some, e) = absurd (omega arith)
plain (b ∷ bs) n (all, some, e) = let other = no_hyphen b all.0 in rw other refl

abbrev read : ℤ → Result ℤ TypeErrorKind
read z = Ok z

pub integer-again : (bs : List ℕ) (z : ℤ) → IsInteger bs z → integer_of bs ≡ Ok z
integer-again bs z (inl (n, are, small, e)) = plain bs n are ∙ (natural-again bs n are small ∙ ap read (sym e))
integer-again bs z (inr (n, ds, e, are, small, f)) = ap integer_of e ∙ (negative-again ds n are small ∙ ap read (sym f))

pub integer-takes : (bs : List ℕ) (z : ℤ) → integer_of bs ≡ Ok z → IsInteger bs z
integer-takes [] z e = absurd cc
integer-takes (b ∷ bs) z e = by_test (eqb b 45) refl e
  where
    by_test : (t : Bool) → eqb b 45 ≡ t → cond t (negative_of bs) (natural_of (b ∷ bs)) ≡ read z → IsInteger (b ∷ bs) z
    by_test true h g =
        let t = test_ok (is_numeral bs && leb (digits_value 10 bs) (2 ^ 63)) (read (neg_ℤ (pos (digits_value 10 bs)))) Unreadable z g in
        let both = and_parts (is_numeral bs) (leb (digits_value 10 bs) (2 ^ 63)) t.0 in
        inr (digits_value 10 bs, bs, ap (λ (x : ℕ). x ∷ bs) (eqb-true b 45 h), digits-take bs both.0, leb-true _ _ both.1, sym (ok_is {F = TypeErrorKind} _ _ t.1))
    by_test false h g =
        let ds : List ℕ = b ∷ bs in
        let t = test_ok (is_numeral ds && ltb (digits_value 10 ds) (2 ^ 63)) (read (pos (digits_value 10 ds))) Unreadable z g in
        let both = and_parts (is_numeral ds) (ltb (digits_value 10 ds) (2 ^ 63)) t.0 in
        inl (digits_value 10 ds, digits-take ds both.0, ltb-true _ _ both.1, sym (ok_is {F = TypeErrorKind} _ _ t.1))

abbrev refused : TypeErrorKind → Result ℤ TypeErrorKind
refused f = Err f

err_is : (f g : TypeErrorKind) → refused f ≡ refused g → g ≡ f
err_is f g e = cc

-- there is one refusal behind a test
behind : (t : Bool) (z : ℤ) (f : TypeErrorKind) → cond t (read z) (refused Unreadable) ≡ refused f → f ≡ Unreadable
behind true z f e = absurd cc
behind false z f e = err_is Unreadable f e

pub integer-refuses : (bs : List ℕ) (f : TypeErrorKind) → integer_of bs ≡ Err f → f ≡ Unreadable
integer-refuses [] f e = err_is Unreadable f e
integer-refuses (b ∷ bs) f e = by_test (eqb b 45) e
  where
    by_test : (t : Bool) → cond t (negative_of bs) (natural_of (b ∷ bs)) ≡ refused f → f ≡ Unreadable
    by_test true g = behind (is_numeral bs && leb (digits_value 10 bs) (2 ^ 63)) (neg_ℤ (pos (digits_value 10 bs))) f g
    by_test false g = behind (is_numeral (b ∷ bs) && ltb (digits_value 10 (b ∷ bs)) (2 ^ 63)) (pos (digits_value 10 (b ∷ bs))) f g
