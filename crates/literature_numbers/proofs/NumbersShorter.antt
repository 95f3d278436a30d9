-- Each step of the reader that gives something leaves less to read.
use Rattle.std.proofs.Common.{◌≡◌, ℕ, ◌<◌, Bool, true, false, cond, List, [], ◌∷◌, length, Option, Some, None, Result, Ok, Err, ℤ, ap, arith, eqb}
use Rattle.std.specs.Prelude.{IfOk}
use Rattle.laws.specs.Characters.{ampersand, comma}
use Rattle.laws.specs.Results.{◌>>=◌}
use Rattle.laws.specs.Steps.{Shortens}
use Rattle.laws.specs.Runs.{after}
use Rattle.laws.proofs.Results.{ok_is}
use Rattle.laws.proofs.Runs.{length-after}
use Rattle.texts.specs.Character.{passes}
use Rattle.texts.specs.Reading.{number_at}
use Rattle.literature_numbers.specs.Numbers.{delimiter_at, between, separator_at}
use Rattle.literature_numbers.specs.Numerics.{number_after, next_number_at}
use Rattle.texts.specs.declared.character.Class.TheVariants.{Space, Dash}
use Rattle.literature_numbers.specs.declared.separator.NumericDelimiter.{NumericDelimiter}
use Rattle.literature_numbers.specs.declared.separator.NumericDelimiter.TheVariants.{Comma, Ampersand, Hyphen}
use Rattle.texts.specs.declared.reader.Unreadable.{Unreadable}
use Rattle.texts.proofs.ReadingShorter.{LeavesAtMost, number-leaves}

-- a separator takes a character at least
abbrev TakesOne : ℕ → Option (NumericDelimiter × List ℕ) → Type 0
TakesOne n None = Unit {0}
TakesOne n (Some p) = length p.1 < n

delimiter-takes : (cs : List ℕ) → TakesOne (length cs) (delimiter_at cs)
delimiter-takes [] = tt
delimiter-takes (c ∷ cs) = by_tests (eqb c comma) (eqb c ampersand) (passes Dash c)
  where
    by_tests : (a b d : Bool) → TakesOne (length (c ∷ cs)) (cond a (Some (Comma, cs)) (cond b (Some (Ampersand, cs)) (cond d (Some (Hyphen, after (passes Dash) cs)) None)))
    by_tests true b d = omega arith
    by_tests false true d = omega arith
    by_tests false false true = omega (arith, length-after (passes Dash) cs)
    by_tests false false false = tt

-- where a separator stands, less is left
abbrev pub LeavesLess : ℕ → Option NumericDelimiter × List ℕ → Type 0
LeavesLess n (None, rest) = Unit {0}
LeavesLess n (Some d, rest) = length rest < n

pub separator-leaves : (cs : List ℕ) → LeavesLess (length cs) (separator_at cs)
unfolding separator_at
separator-leaves cs = by_delimiter (delimiter_at (after (passes Space) cs)) (delimiter-takes (after (passes Space) cs))
  where
    by_delimiter : (o : Option (NumericDelimiter × List ℕ)) → TakesOne (length (after (passes Space) cs)) o → LeavesLess (length cs) (between cs o)
    by_delimiter None less = tt
    by_delimiter (Some p) less = omega (arith, length-after (passes Space) cs, length-after (passes Space) p.1)

-- what was given and what was left
abbrev given : {X : Type 0} → X → List ℕ → Result (X × List ℕ) Unreadable
given x rest = Ok (x, rest)

pub given_is : {X : Type 0} (x y : X) (more rest : List ℕ) → given x more ≡ given y rest → (x ≡ y) × (more ≡ rest)
given_is {X} x y more rest e =
    let same : (x, more) ≡ (y, rest) = ok_is {F = Unreadable} (x, more) (y, rest) e in
    (ap (λ (p : X × List ℕ). p.0) same, ap (λ (p : X × List ℕ). p.1) same)

abbrev following : NumericDelimiter → Result (ℤ × List ℕ) Unreadable → Result (Option (NumericDelimiter × ℤ) × List ℕ) Unreadable
following d r = r >>= λ n. Ok (Some (d, n.0), n.1)

pub numbers_shorten : Shortens next_number_at
unfolding next_number_at
numbers_shorten text rest x is = by_separator (separator_at text) (separator-leaves text) is
  where
    by_number : (d : NumericDelimiter) (more : List ℕ) → length more < length text → (r : Result (ℤ × List ℕ) Unreadable) → IfOk r (LeavesAtMost (length more))
        → following d r ≡ Ok (Some x, rest) → length rest < length text
    by_number d more less (Ok n) most e =
        omega (arith, ap length (given_is (Some (d, n.0)) (Some x) n.1 rest e).1)
    by_number d more less (Err f) most e = absurd cc

    by_separator : (s : Option NumericDelimiter × List ℕ) → LeavesLess (length text) s → number_after s ≡ Ok (Some x, rest) → length rest < length text
    by_separator (None, more) less e =
        let none = (given_is None (Some x) more rest e).0 in
        absurd cc
    by_separator (Some d, more) less e = by_number d more less (number_at more) (number-leaves more) e
