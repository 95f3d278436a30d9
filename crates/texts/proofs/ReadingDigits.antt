-- Digits and the numbers that they spell.
use Rattle.std.proofs.Common.{◌≡◌, ℕ, ◌<◌, ◌≤◌, Bool, true, false, ◌&&◌, List, [], ◌∷◌, length, Result, Ok, Err, ℤ, pos, refl, sym, ap, ◌∙◌, subst, ◌^◌, w32, arith, ltb, leb}
use Rattle.std.specs.Char.{is_ascii_digit}
use Rattle.std.specs.Result.{OkIff}
use Rattle.std.specs.Str.{chars, IsUtf8, IsAscii, all_ascii_digits}
use Rattle.std.specs.Str.Parse.{digits_value, ParsesSigned, ParsesUnsigned}
use Rattle.std.proofs.Math.Utf8.{encodes}
use Rattle.std.proofs.lemmas.Bool.{ltb-true, lt-ltb, leb-true, and_parts}
use Rattle.std.proofs.lemmas.Str.{encodes-chars, chars-IsAscii, IsUtf8-from_ascii}
use Rattle.std.proofs.lemmas.Str.Parse.{IsNumeralModel, numerals_by_value, tells_all_ascii_digits, parse_signed_digits, parse_gives, digits_value_short}
use Rattle.std.proofs.lemmas.Fmt.{IsAscii-from_digits}
use Rattle.laws.specs.Runs.{prefix_of, after, AllPassTest}
use Rattle.laws.proofs.Runs.{all-prefix}
use Rattle.texts.specs.Character.{passes}
use Rattle.texts.specs.Reading.{is_number, number_at, digits_at}
use Rattle.texts.specs.declared.character.Class.TheVariants.{Digit}
use Rattle.texts.specs.declared.reader.Unreadable.TheVariants.{NotThere}

-- std's words for digits and their value
pub own : IsNumeralModel (λ ds. all_ascii_digits ds ≡ true) (digits_value 10)
own = numerals_by_value _ tells_all_ascii_digits

-- a run of digits has only digits by std's test
pub digits_all : (ds : List ℕ) → AllPassTest (passes Digit) ds → all_ascii_digits ds ≡ true
unfolding passes
digits_all [] all = refl
digits_all (d ∷ ds) all =
    let p : is_ascii_digit d ≡ true = all.0 in
    rw p (digits_all ds all.1)

-- digits spell themselves
digits_bytes : (bs ds : List ℕ) → IsUtf8 bs → chars bs ≡ ds → all_ascii_digits ds ≡ true → bs ≡ ds
digits_bytes bs ds u is all =
    let ascii : IsAscii ds = IsAscii-from_digits ds (own.to ds all) in
    sym (encodes-chars bs u) ∙ ap encodes (is ∙ sym (chars-IsAscii ds ascii)) ∙ encodes-chars ds (IsUtf8-from_ascii ds ascii)

-- a run of digits is its own spelling
pub run_bytes : (bs cs : List ℕ) → IsUtf8 bs → chars bs ≡ prefix_of (passes Digit) cs → bs ≡ prefix_of (passes Digit) cs
run_bytes bs cs u is = digits_bytes bs (prefix_of (passes Digit) cs) u is (digits_all (prefix_of (passes Digit) cs) (all-prefix (passes Digit) cs))

-- what parsing the digits returns
parsed : {E : Type 0} (bs cs : List ℕ) (r : Result ℤ E) → IsUtf8 bs → chars bs ≡ prefix_of (passes Digit) cs → ParsesSigned w32 10 bs r
    → OkIff r ((0 < length (prefix_of (passes Digit) cs)) × (digits_value 10 (prefix_of (passes Digit) cs) < 2 ^ 31)) (pos (digits_value 10 (prefix_of (passes Digit) cs)))
parsed {E} bs cs r u is p =
    let ds : List ℕ = prefix_of (passes Digit) cs in
    let all : all_ascii_digits ds ≡ true = digits_all ds (all-prefix (passes Digit) cs) in
    let q : ParsesSigned {E = E} w32 10 ds r = subst (λ (b : List ℕ). ParsesSigned w32 10 b r) (digits_bytes bs ds u is all) p in
    parse_signed_digits own w32 ds r q all

pub is_number_true : (ds : List ℕ) → 0 < length ds → digits_value 10 ds < 2 ^ 31 → is_number ds ≡ true
is_number_true ds long small =
    let a : ltb 0 (length ds) ≡ true = lt-ltb _ _ long in
    let b : ltb (digits_value 10 ds) (2 ^ 31) ≡ true = lt-ltb _ _ small in
    rw (a, b) refl

is_number_false : (ds : List ℕ) → ((0 < length ds) × (digits_value 10 ds < 2 ^ 31) → ⊥) → is_number ds ≡ false
is_number_false ds never = by_tests (ltb 0 (length ds)) refl (ltb (digits_value 10 ds) (2 ^ 31)) refl
  where
    by_tests : (a : Bool) → ltb 0 (length ds) ≡ a → (b : Bool) → ltb (digits_value 10 ds) (2 ^ 31) ≡ b → a && b ≡ false
    by_tests true e true f = absurd (never (ltb-true _ _ e, ltb-true _ _ f))
    by_tests true e false f = refl
    by_tests false e b f = refl

-- a parsed number is the one that stands there
pub number_parsed : {E : Type 0} (bs cs : List ℕ) (z : ℤ) (r : Result ℤ E) → r ≡ Ok z → IsUtf8 bs → chars bs ≡ prefix_of (passes Digit) cs → ParsesSigned w32 10 bs r
    → number_at cs ≡ Ok (z, after (passes Digit) cs)
number_parsed bs cs z r e u is p =
    let k = rw e at (parsed bs cs r u is p) in
    let t : is_number (prefix_of (passes Digit) cs) ≡ true = is_number_true _ k.0.0 k.0.1 in
    let same : z ≡ pos (digits_value 10 (prefix_of (passes Digit) cs)) = k.1 in
    rw (t, same) refl

-- what does not parse is no number
pub number_refused : {E : Type 0} (bs cs : List ℕ) (f : E) → IsUtf8 bs → chars bs ≡ prefix_of (passes Digit) cs → ParsesSigned w32 10 bs (Err f) → number_at cs ≡ Err NotThere
number_refused bs cs f u is p =
    let t : is_number (prefix_of (passes Digit) cs) ≡ false = is_number_false _ (parsed bs cs (Err f) u is p) in
    rw t refl

-- a few digits parse as their number
pub digits_parsed : {E : Type 0} (bs cs : List ℕ) (r : Result ℕ E) (least most : ℕ) → IsUtf8 bs → chars bs ≡ prefix_of (passes Digit) cs → ParsesUnsigned 16 10 bs r
    → 0 < least → most ≤ 4 → leb least (length bs) && leb (length bs) most ≡ true → r ≡ Ok (digits_value 10 (prefix_of (passes Digit) cs))
digits_parsed {E} bs cs r least most u is p long few t =
    let within = and_parts (leb least (length bs)) (leb (length bs) most) t in
    let low : least ≤ length bs = leb-true _ _ within.0 in
    let high : length bs ≤ most = leb-true _ _ within.1 in
    let ds : List ℕ = prefix_of (passes Digit) cs in
    let all : all_ascii_digits ds ≡ true = digits_all ds (all-prefix (passes Digit) cs) in
    let same : bs ≡ ds = run_bytes bs cs u is in
    let q : ParsesUnsigned {E = E} 16 10 ds r = subst (λ (b : List ℕ). ParsesUnsigned 16 10 b r) same p in
    let some : 0 < length ds = omega (arith, ap length same) in
    let short : length ds ≤ 4 = omega (arith, ap length same) in
    let value : digits_value 10 ds < 10 ^ 4 = digits_value_short own ds 4 all short in
    parse_gives own 16 ds r q all some (omega arith)

-- whether there are as many digits as are wanted
pub digits_at-ok : (bs cs : List ℕ) (least most : ℕ) → bs ≡ prefix_of (passes Digit) cs → leb least (length bs) && leb (length bs) most ≡ true
    → digits_at least most cs ≡ Ok (digits_value 10 (prefix_of (passes Digit) cs), after (passes Digit) cs)
digits_at-ok bs cs least most same t =
    let u : leb least (length (prefix_of (passes Digit) cs)) && leb (length (prefix_of (passes Digit) cs)) most ≡ true = subst (λ (b : List ℕ). leb least (length b) && leb (length b) most ≡ true) same t in
    rw u refl

pub digits_at-err : (bs cs : List ℕ) (least most : ℕ) → bs ≡ prefix_of (passes Digit) cs → leb least (length bs) && leb (length bs) most ≡ false → digits_at least most cs ≡ Err NotThere
digits_at-err bs cs least most same t =
    let u : leb least (length (prefix_of (passes Digit) cs)) && leb (length (prefix_of (passes Digit) cs)) most ≡ false = subst (λ (b : List ℕ). leb least (length b) && leb (length b) most ≡ false) same t in
    rw u refl
