-- What tests that are joined say.
use Rattle.std.proofs.Common.{◌≡◌, ℕ, zero, suc, ◌<◌, ◌==◌, Bool, true, false, not, ◌&&◌, ◌||◌, List, [], ◌∷◌, length, drop, refl, arith}
use Rattle.std.proofs.lemmas.Bool.{eqb-true}
use Rattle.biblatex_lists.specs.declared.styled_char.StyledChar.{StyledChar}
use Rattle.biblatex_lists.specs.Writing.{holds}

pub or_first : (a b : Bool) → a || b ≡ false → a ≡ false
or_first true b e = absurd cc
or_first false b e = refl

pub or_second : (a b : Bool) → a || b ≡ false → b ≡ false
or_second true b e = absurd cc
or_second false b e = e

pub both_false : (a b : Bool) → a ≡ false → b ≡ false → a || b ≡ false
both_false a b p q = rw (p, q) refl

pub and_false : (a : Bool) → a && false ≡ false
and_false true = refl
and_false false = refl

pub and_true : (a : Bool) → a && true ≡ a
and_true true = refl
and_true false = refl

pub and_first : (a b : Bool) → a && b ≡ true → a ≡ true
and_first true b e = refl
and_first false b e = absurd cc

pub and_second : (a b : Bool) → a && b ≡ true → b ≡ true
and_second true b e = e
and_second false b e = absurd cc

pub not_true : (a : Bool) → not a ≡ true → a ≡ false
not_true true e = absurd cc
not_true false e = refl

pub zero_length : (n : ℕ) → (n == 0) ≡ true → n ≡ 0
zero_length n e = eqb-true n 0 e

-- a test that does not hold here holds later or nowhere
pub holds_later : (test : List StyledChar → Bool) (ss : List StyledChar) (i : ℕ) → i < length ss → test (drop i ss) ≡ false → holds test (drop i ss) ≡ holds test (drop (suc i) ss)
holds_later test [] i below e = absurd (omega arith)
holds_later test (s ∷ ss) zero below e = rw e refl
holds_later test (s ∷ ss) (suc i) below e = holds_later test ss i (omega arith) e
