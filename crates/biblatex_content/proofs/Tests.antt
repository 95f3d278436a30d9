-- Tests that are joined, and those by which a text is tidy.
use Rattle.std.proofs.Common.{◌≡◌, ℕ, Bool, true, false, not, ◌&&◌, ◌||◌, eqb, refl}
use Rattle.laws.specs.Characters.{space}
use Rattle.biblatex_tex.specs.Character.{is_blank}

pub first_of_two : (a b : Bool) → a && b ≡ true → a ≡ true
first_of_two true b e = refl
first_of_two false b e = absurd cc

pub second_of_two : (a b : Bool) → a && b ≡ true → b ≡ true
second_of_two true b e = e
second_of_two false b e = absurd cc

pub both : (a b : Bool) → a ≡ true → b ≡ true → a && b ≡ true
both a b p q = rw (p, q) refl

pub not_true : (a : Bool) → not a ≡ true → a ≡ false
not_true true e = absurd cc
not_true false e = refl

-- a blank that stays is a space after another character; what stays else is no blank
pub blank_stays : (blank after_space : Bool) → not (blank && (after_space || not true)) ≡ true → blank ≡ true → after_space ≡ false
blank_stays true true e b = absurd cc
blank_stays true false e b = refl
blank_stays false after_space e b = absurd cc

pub other_stays : (blank after_space : Bool) → not (blank && (after_space || not false)) ≡ true → blank ≡ false
other_stays false after_space e = refl
other_stays true true e = absurd cc
other_stays true false e = absurd cc

pub space_blank : (c : ℕ) → eqb c space ≡ true → is_blank c ≡ true
space_blank c e = rw e refl
