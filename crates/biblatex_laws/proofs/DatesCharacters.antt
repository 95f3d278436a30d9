-- Dates are written in characters.
use Rattle.std.proofs.Common.{◌≡◌, ℕ, ℤ, zero, suc, ◌+◌, ◌-◌, ◌/◌, ◌%◌, ◌==◌, Bool, true, false, List, [], ◌∷◌, ◌++◌, length, replicate, Option, Some, None, codes, refl, arith}
use Rattle.std.specs.Prelude.{if◌then◌else◌, nat_lt, unsigned_abs}
use Rattle.std.specs.Fmt.{decimal, digit_glyph, digits, digits_onto, sign_text}
use Rattle.std.specs.Int.{is_negative}
use lib.Utf8.{scalar, low_scalar}
use Rattle.laws.specs.Characters.{colon, digit_zero, upper_t}
use Rattle.date_parts.specs.Written.{padded, counted_text, year_text}
use Rattle.biblatex_dates.specs.Written.{following, sign, offset_text, time_text, day_text, month_text, datetime_text, sides_text, end_text, mark_text, date_text}
use Rattle.biblatex_dates.specs.declared.date.Date.{Date}
use Rattle.biblatex_dates.specs.declared.date.DateValue.{DateValue}
use Rattle.biblatex_dates.specs.declared.date.DateValue.TheVariants.{At, After, Before, Between}
use Rattle.biblatex_dates.specs.declared.datetime.Datetime.{Datetime}
use Rattle.biblatex_dates.specs.declared.datetime.Time.{Time}
use Rattle.biblatex_dates.specs.declared.datetime.TimeOffset.{TimeOffset}
use Rattle.biblatex_dates.specs.declared.datetime.TimeOffset.TheVariants.{Utc, Offset}
use Rattle.biblatex_laws.specs.Raw.{AreCharacters}
use Rattle.biblatex_laws.proofs.CharacterLists.{append, both_of}
use Rattle.biblatex_laws.proofs.ContentCharacters.{repeated}

glyph : (n : ℕ) → scalar (digit_glyph false (n % 10)) ≡ true
glyph n = by (nat_lt (n % 10) 10)
  where
    by : (b : Bool) → scalar (if b then 48 + n % 10 else (if false then 55 + n % 10 else 87 + n % 10)) ≡ true
    by true = low_scalar (48 + n % 10) (omega arith)
    by false = low_scalar (87 + n % 10) (omega arith)

onto : (k n : ℕ) (acc : List ℕ) → AreCharacters acc → AreCharacters (digits_onto k 10 false n acc)
onto zero n acc p = p
onto (suc k) n acc p =
    let next : AreCharacters (digit_glyph false (n % 10) ∷ acc) = both_of (scalar (digit_glyph false (n % 10))) _ (glyph n) p in
    by next (onto k (n / 10) (digit_glyph false (n % 10) ∷ acc) next) (n / 10 == 0)
  where
    by : AreCharacters (digit_glyph false (n % 10) ∷ acc) → AreCharacters (digits_onto k 10 false (n / 10) (digit_glyph false (n % 10) ∷ acc)) → (b : Bool)
        → AreCharacters (if b then digit_glyph false (n % 10) ∷ acc else digits_onto k 10 false (n / 10) (digit_glyph false (n % 10) ∷ acc))
    by q r true = q
    by q r false = r

decimal_characters : (n : ℕ) → AreCharacters (decimal n)
unfolding digits
decimal_characters n = onto 64 n [] refl

padded_characters : (width n : ℕ) → AreCharacters (padded width n)
padded_characters width n = append (replicate (width - length (decimal n)) digit_zero) (decimal n) (repeated (width - length (decimal n)) digit_zero refl) (decimal_characters n)

following_characters : (c n : ℕ) → scalar c ≡ true → AreCharacters (following c n)
following_characters c n p = both_of (scalar c) _ p (padded_characters 2 n)

sign_character : (b : Bool) → scalar (sign b) ≡ true
sign_character true = refl
sign_character false = refl

offset_characters : (o : Option TimeOffset) → AreCharacters (offset_text o)
offset_characters None = refl
offset_characters (Some Utc) = refl
offset_characters (Some (Offset positive hours minutes)) = append (following (sign positive) hours) (following colon minutes) (following_characters (sign positive) hours (sign_character positive)) (following_characters colon minutes refl)

time_characters : (o : Option Time) → AreCharacters (time_text o)
time_characters None = refl
time_characters (Some t) =
    append (following upper_t t.hour) (following colon t.minute ++ (following colon t.second ++ offset_text t.offset)) (following_characters upper_t t.hour refl)
    (append (following colon t.minute) (following colon t.second ++ offset_text t.offset) (following_characters colon t.minute refl)
    (append (following colon t.second) (offset_text t.offset) (following_characters colon t.second refl) (offset_characters t.offset)))

counted_characters : (n : ℕ) → AreCharacters (counted_text n)
counted_characters n = padded_characters 2 (n + 1)

day_characters : (day : Option ℕ) (time : Option Time) → AreCharacters (day_text day time)
day_characters None time = refl
day_characters (Some d) time = append (counted_text d) (time_text time) (counted_characters d) (time_characters time)

month_characters : (month day : Option ℕ) (time : Option Time) → AreCharacters (month_text month day time)
month_characters None day time = refl
month_characters (Some m) day time = append (counted_text m) (day_text day time) (counted_characters m) (day_characters day time)

sign_characters : (b : Bool) → AreCharacters (sign_text b)
sign_characters true = refl
sign_characters false = refl

year_characters : (y : ℤ) → AreCharacters (year_text y)
year_characters y = append (sign_text (is_negative y)) (padded 4 (unsigned_abs y)) (sign_characters (is_negative y)) (padded_characters 4 (unsigned_abs y))

datetime_characters : (d : Datetime) → AreCharacters (datetime_text d)
datetime_characters d = append (year_text d.year) (month_text d.month d.day d.time) (year_characters d.year) (month_characters d.month d.day d.time)

sides_characters : (v : DateValue) → AreCharacters (sides_text v)
sides_characters (At d) = datetime_characters d
sides_characters (After d) = datetime_characters d
sides_characters (Before d) = append (codes "../") (datetime_text d) refl (datetime_characters d)
sides_characters (Between c d) = append (datetime_text c) (codes "/" ++ datetime_text d) (datetime_characters c) (append (codes "/") (datetime_text d) refl (datetime_characters d))

end_characters : (v : DateValue) → AreCharacters (end_text v)
end_characters (At d) = refl
end_characters (After d) = refl
end_characters (Before d) = refl
end_characters (Between c d) = refl

mark_characters : (a b : Bool) → AreCharacters (mark_text a b)
mark_characters false false = refl
mark_characters true false = refl
mark_characters false true = refl
mark_characters true true = refl

pub date_characters : (d : Date) → AreCharacters (date_text d)
date_characters d =
    append (sides_text d.value) (mark_text d.uncertain d.approximate ++ end_text d.value) (sides_characters d.value)
    (append (mark_text d.uncertain d.approximate) (end_text d.value) (mark_characters d.uncertain d.approximate) (end_characters d.value))
