-- Integers as std parses and prints them.
use Rattle.std.proofs.Common.{◌≡◌, ℕ, ◌<◌, ◌≤◌, ◌^◌, Bool, true, false, ◌&&◌, cond, List, [], ◌∷◌, length, get_or, Result, Ok, Err, ℤ, pos, neg_ℤ, FitsSigned, IfOk, String, Global, string_bytes, refl, sym, ap, ◌∙◌, arith, ltb, leb, eqb}
use Rattle.std.specs.Fmt.{signed_decimal}
use Rattle.std.specs.Int.{w64}
use Rattle.std.specs.Result.{OkIff}
use Rattle.std.specs.Str.{chars, all_ascii_digits}
use Rattle.std.specs.Str.Parse.{digits_value, ParsesSigned}
use Rattle.std.proofs.lemmas.Bool.{ltb-true, lt-ltb, leb-true, le-leb, eqb-true}
use Rattle.std.proofs.lemmas.Fmt.{IsAscii-signed}
use Rattle.std.proofs.lemmas.Int.{ints}
use Rattle.std.proofs.lemmas.Str.{chars-IsAscii}
use Rattle.std.proofs.lemmas.Str.Parse.{parse_signed_plain, parse_signed_minus}
use Rattle.texts.proofs.ReadingDigits.{own}
use Rattle.laws.specs.Characters.{plus_sign, hyphen}
use Rattle.laws.specs.Text.{characters}
use Rattle.biblatex_dates.specs.declared.error.TypeErrorKind.TheVariants.{Unreadable}
use Rattle.biblatex_values.specs.Integer.{natural_of, negative_of, integer_of}
use lib.Signed.{mag}

abbrev HasNatural : List ℕ → Type 0
HasNatural ds = (all_ascii_digits ds ≡ true) × (0 < length ds) × (digits_value 10 ds < 2 ^ 63)

abbrev HasNegative : List ℕ → Type 0
HasNegative ds = (all_ascii_digits ds ≡ true) × (0 < length ds) × (digits_value 10 ds ≤ 2 ^ 63)

pub natural-ok : (ds : List ℕ) → HasNatural ds → natural_of ds ≡ Ok (pos (digits_value 10 ds))
natural-ok ds k =
    let a = k.0 in
    let b : ltb 0 (length ds) ≡ true = lt-ltb _ _ k.1 in
    let d : ltb (digits_value 10 ds) (2 ^ 63) ≡ true = lt-ltb _ _ k.2 in
    rw (a, b, d) refl

pub negative-ok : (ds : List ℕ) → HasNegative ds → negative_of ds ≡ Ok (neg_ℤ (pos (digits_value 10 ds)))
negative-ok ds k =
    let a = k.0 in
    let b : ltb 0 (length ds) ≡ true = lt-ltb _ _ k.1 in
    let d : leb (digits_value 10 ds) (2 ^ 63) ≡ true = le-leb _ _ k.2 in
    rw (a, b, d) refl

natural-err : (ds : List ℕ) → (HasNatural ds → ⊥) → natural_of ds ≡ Err Unreadable
natural-err ds never = by_tests (all_ascii_digits ds) refl (ltb 0 (length ds)) refl (ltb (digits_value 10 ds) (2 ^ 63)) refl
  where
    by_tests : (a : Bool) → all_ascii_digits ds ≡ a → (b : Bool) → ltb 0 (length ds) ≡ b → (d : Bool) → ltb (digits_value 10 ds) (2 ^ 63) ≡ d
        → cond ((a && b) && d) (Ok (pos (digits_value 10 ds))) (Err Unreadable) ≡ Err Unreadable
    by_tests true e true f true g = absurd (never (e, ltb-true _ _ f, ltb-true _ _ g))
    by_tests true e true f false g = refl
    by_tests true e false f d g = refl
    by_tests false e b f d g = refl

negative-err : (ds : List ℕ) → (HasNegative ds → ⊥) → negative_of ds ≡ Err Unreadable
negative-err ds never = by_tests (all_ascii_digits ds) refl (ltb 0 (length ds)) refl (leb (digits_value 10 ds) (2 ^ 63)) refl
  where
    by_tests : (a : Bool) → all_ascii_digits ds ≡ a → (b : Bool) → ltb 0 (length ds) ≡ b → (d : Bool) → leb (digits_value 10 ds) (2 ^ 63) ≡ d
        → cond ((a && b) && d) (Ok (neg_ℤ (pos (digits_value 10 ds)))) (Err Unreadable) ≡ Err Unreadable
    by_tests true e true f true g = absurd (never (e, ltb-true _ _ f, leb-true _ _ g))
    by_tests true e true f false g = refl
    by_tests true e false f d g = refl
    by_tests false e b f d g = refl

-- what parsing returns, viewed without its error
abbrev Parsed : {E : Type 0} → Result ℤ E → List ℕ → Type 0
Parsed (Ok z) bs = integer_of bs ≡ Ok z
Parsed (Err f) bs = integer_of bs ≡ Err Unreadable

natural_parsed : {E : Type 0} (ds : List ℕ) (r : Result ℤ E) → OkIff r (HasNatural ds) (pos (digits_value 10 ds)) → integer_of ds ≡ natural_of ds → Parsed r ds
natural_parsed ds (Ok z) k is = is ∙ natural-ok ds k.0 ∙ ap (λ (y : ℤ). Ok y) (sym k.1)
natural_parsed ds (Err f) k is = is ∙ natural-err ds k

negative_parsed : {E : Type 0} (b : ℕ) (ds : List ℕ) (r : Result ℤ E) → OkIff r (HasNegative ds) (neg_ℤ (pos (digits_value 10 ds))) → integer_of (b ∷ ds) ≡ negative_of ds → Parsed r (b ∷ ds)
negative_parsed b ds (Ok z) k is = is ∙ negative-ok ds k.0 ∙ ap (λ (y : ℤ). Ok y) (sym k.1)
negative_parsed b ds (Err f) k is = is ∙ negative-err ds k

pub parsed : {E : Type 0} (bs : List ℕ) (r : Result ℤ E) → (get_or bs 0 0 ≡ plus_sign → ⊥) → ParsesSigned w64 10 bs r → Parsed r bs
parsed [] r no_plus p = natural_parsed [] r (parse_signed_plain own w64 [] r p no_plus (λ e. omega arith)) refl
parsed {E} (b ∷ bs) r no_plus p = by_test (eqb b hyphen) refl
  where
    by_test : (t : Bool) → eqb b hyphen ≡ t → Parsed r (b ∷ bs)
    by_test true e = negative_parsed b bs r (parse_signed_minus own w64 (b ∷ bs) r p (eqb-true b hyphen e)) (rw e refl)
    by_test false e = natural_parsed (b ∷ bs) r (parse_signed_plain own w64 (b ∷ bs) r p no_plus (λ (is : b ≡ hyphen). let f : eqb b hyphen ≡ true = rw is refl in absurd (true_is_not_false f e))) (rw e refl)
      where
        true_is_not_false : eqb b hyphen ≡ true → eqb b hyphen ≡ false → ⊥
        true_is_not_false f g = let h : true ≡ false = sym f ∙ g in absurd cc

pub integer_parsed : {E : Type 0} (bs : List ℕ) (z : ℤ) (r : Result ℤ E) → r ≡ Ok z → (get_or bs 0 0 ≡ plus_sign → ⊥) → ParsesSigned w64 10 bs r → integer_of bs ≡ Ok z
integer_parsed {E} bs z r e no_plus p = let h : Parsed {E = E} (Ok z) bs = rw e at (parsed bs r no_plus p) in h

pub integer_refused : {E : Type 0} (bs : List ℕ) (f : E) → (get_or bs 0 0 ≡ plus_sign → ⊥) → ParsesSigned w64 10 bs (Err f) → integer_of bs ≡ Err Unreadable
integer_refused bs f no_plus p = parsed bs (Err f) no_plus p

-- a text does not begin with a plus where a test says so
pub no_plus : (bs : List ℕ) (t : Bool) → t ≡ false → t ≡ eqb (get_or bs 0 0) plus_sign → get_or bs 0 0 ≡ plus_sign → ⊥
no_plus bs t false_is is e =
    let yes : eqb (get_or bs 0 0) plus_sign ≡ true = rw e refl in
    let h : false ≡ true = sym false_is ∙ is ∙ yes in
    absurd cc

-- an integer is printed in ASCII
pub shown : {E : Type 0} (r : Result (String Global) E) (z y : ℤ) → FitsSigned w64 z → y ≡ z → IfOk r (λ s. string_bytes s ≡ signed_decimal y) → IfOk r (λ s. characters s ≡ signed_decimal z)
shown (Ok s) z y fits same e =
    let small : mag z < 2 ^ 63 = omega (arith, ints) in
    ap chars (e ∙ ap signed_decimal same) ∙ chars-IsAscii (signed_decimal z) (IsAscii-signed z small)
shown (Err f) z y fits same e = tt
