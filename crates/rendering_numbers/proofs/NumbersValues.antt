-- Ordinal and Roman numbers.
use Rattle.std.proofs.Common.{◌≡◌, ℕ, List, codes, ◌∷◌, [], None, pos, refl}
use Rattle.std.specs.Fmt.{digits}
use Rattle.rendering_locale.specs.Locales.{OrdinalEnding, Ordinals}
use Rattle.rendering_numbers.specs.Numbers.{ordinal_text, roman_or_digits}

-- an ending of all genders, with the numbers that its number says
abbrev under : ℕ → List ℕ → OrdinalEnding
under n cs = record { number = n; ending = cs; gender = None; only = None }

-- the endings of English
abbrev english : Ordinals
english = record {
  endings = under 1 (codes "st") ∷ under 2 (codes "nd") ∷ under 3 (codes "rd") ∷ under 11 (codes "th") ∷ under 12 (codes "th") ∷ under 13 (codes "th") ∷ [];
  default = codes "th";
}

pub first : ordinal_text english (pos 1) ≡ codes "1st"
unfolding digits
first = refl

pub second : ordinal_text english (pos 2) ≡ codes "2nd"
unfolding digits
second = refl

pub third : ordinal_text english (pos 3) ≡ codes "3rd"
unfolding digits
third = refl

pub eleventh : ordinal_text english (pos 11) ≡ codes "11th"
unfolding digits
eleventh = refl

pub twenty_first : ordinal_text english (pos 21) ≡ codes "21st"
unfolding digits
twenty_first = refl

pub hundred_and_eleventh : ordinal_text english (pos 111) ≡ codes "111th"
unfolding digits
hundred_and_eleventh = refl

pub roman_1994 : roman_or_digits (pos 1994) ≡ codes "mcmxciv"
roman_1994 = refl

pub roman_3999 : roman_or_digits (pos 3999) ≡ codes "mmmcmxcix"
roman_3999 = refl

pub no_roman_4000 : roman_or_digits (pos 4000) ≡ codes "4000"
unfolding digits
no_roman_4000 = refl
