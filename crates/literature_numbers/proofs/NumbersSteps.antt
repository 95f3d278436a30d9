-- Numbers read one after the other.
use Rattle.std.proofs.Common.{◌≡◌, ℕ, List, [], ◌∷◌, ◌++◌, Some, None, Result, Ok, Err, ℤ, refl, sym, ap, ◌∙◌, append_assoc}
use Rattle.laws.specs.Results.{◌>>=◌}
use Rattle.laws.specs.Steps.{each}
use Rattle.laws.proofs.Results.{bind_bind}
use Rattle.laws.proofs.Steps.{each-none, each-some, each-err}
use Rattle.texts.specs.Reading.{number_at}
use Rattle.literature_numbers.specs.Numerics.{Numbers, linked, next_number_at, numbers_at}
use Rattle.literature_numbers.specs.declared.separator.NumericDelimiter.{NumericDelimiter}
use Rattle.texts.specs.declared.reader.Unreadable.{Unreadable}
use Rattle.literature_numbers.proofs.NumbersShorter.{numbers_shorten}

-- what the numbers that are left make of those so far, of which the last has no separator yet
unfoldable pub numbers_onto : Numbers → ℤ → List ℕ → Result (Numbers × List ℕ) Unreadable
numbers_onto ns n cs = each next_number_at cs >>= λ p. Ok (ns ++ linked n p.0, p.1)

-- where the first number stands, what is left makes of it all numbers of the text
pub numbers_onto-first : (cs rest : List ℕ) (n : ℤ) → number_at cs ≡ Ok (n, rest) → numbers_onto [] n rest ≡ numbers_at cs
unfolding numbers_onto numbers_at
numbers_onto-first cs rest n is = rw is refl

-- where no number stands first, the text has the fault of that
pub numbers_at-err : (cs : List ℕ) (f : Unreadable) → number_at cs ≡ Err f → numbers_at cs ≡ Err f
unfolding numbers_at
numbers_at-err cs f is = rw is refl

-- a further number goes after those so far
pub numbers_onto-some : (ns : Numbers) (n m : ℤ) (d : NumericDelimiter) (cs rest : List ℕ) → next_number_at cs ≡ Ok (Some (d, m), rest)
    → numbers_onto ns n cs ≡ numbers_onto (ns ++ (n, Some d) ∷ []) m rest
unfolding numbers_onto
numbers_onto-some ns n m d cs rest is =
    ap (λ (r : Result (List (NumericDelimiter × ℤ) × List ℕ) Unreadable). r >>= λ p. Ok (ns ++ linked n p.0, p.1)) (each-some next_number_at numbers_shorten cs rest (d, m) is)
    ∙ bind_bind (each next_number_at rest) (λ p. Ok ((d, m) ∷ p.0, p.1)) (λ p. Ok (ns ++ linked n p.0, p.1))
    ∙ ap (λ (f : List (NumericDelimiter × ℤ) × List ℕ → Result (Numbers × List ℕ) Unreadable). each next_number_at rest >>= f)
    (λ i p. Ok (sym (append_assoc ns ((n, Some d) ∷ []) (linked m p.0)) i, p.1))

-- where no further number follows, the numbers so far are all
pub numbers_onto-end : (ns : Numbers) (n : ℤ) (cs rest : List ℕ) → next_number_at cs ≡ Ok (None, rest) → numbers_onto ns n cs ≡ Ok (ns ++ (n, None) ∷ [], rest)
unfolding numbers_onto
numbers_onto-end ns n cs rest is = rw (each-none next_number_at cs rest is) refl

-- a separator that no number follows is a fault
pub numbers_onto-err : (ns : Numbers) (n : ℤ) (cs : List ℕ) (f : Unreadable) → next_number_at cs ≡ Err f → numbers_onto ns n cs ≡ Err f
unfolding numbers_onto
numbers_onto-err ns n cs f is = rw (each-err next_number_at cs f is) refl
