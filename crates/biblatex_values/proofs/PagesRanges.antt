-- Ranges read one after the other.
use Rattle.std.proofs.Common.{◌≡◌, ℕ, ◌<◌, ◌≤◌, Bool, true, false, cond, List, [], ◌∷◌, ◌++◌, length, Option, Some, None, Result, Ok, Err, refl, sym, ap, ◌∙◌, append_assoc, arith, eqb, ◌||◌}
use Rattle.std.specs.Prelude.{IfOk, unsigned_abs}
use Rattle.std.specs.declared.ops.Range.{Range}
use Rattle.laws.specs.Characters.{ampersand, comma}
use Rattle.laws.specs.Results.{◌>>=◌}
use Rattle.laws.specs.Runs.{after}
use Rattle.laws.specs.Steps.{each, Shortens}
use Rattle.laws.proofs.Results.{ok_is, bind_bind, bind_if_ok}
use Rattle.laws.proofs.Runs.{length-after}
use Rattle.laws.proofs.Steps.{each-none, each-some, each-err}
use Rattle.texts.specs.Character.{passes}
use Rattle.texts.specs.Reading.{number_at}
use Rattle.texts.specs.declared.character.Class.TheVariants.{Space, Dash}
use Rattle.texts.specs.declared.reader.Unreadable.{Unreadable}
use Rattle.texts.proofs.ReadingShorter.{LeavesAtMost, number-leaves}
use Rattle.biblatex_values.specs.Pages.{from_to, page_at, dashes_from, dashes_after, last_from, last_following, range_at, comma_from, comma_after, range_from, next_range_at, ranges_at}

-- reading a page leaves no more than there was
page-leaves : (cs : List ℕ) → IfOk (page_at cs) (LeavesAtMost (length cs))
page-leaves cs = bind_if_ok (LeavesAtMost (length cs)) (LeavesAtMost (length cs)) (number_at cs) (λ n. Ok (unsigned_abs n.0, n.1)) (number-leaves cs) (λ n less. less)

-- after a mark at most so many characters are left
abbrev AfterAtMost : ℕ → Option (List ℕ) → Type 0
AfterAtMost n None = Unit {0}
AfterAtMost n (Some rest) = length rest ≤ n

-- after a mark less is left
abbrev AfterLess : ℕ → Option (List ℕ) → Type 0
AfterLess n None = Unit {0}
AfterLess n (Some rest) = length rest < n

dashes_from-leave : (cs : List ℕ) → AfterAtMost (length cs) (dashes_from cs)
dashes_from-leave [] = tt
dashes_from-leave (c ∷ cs) = by_test (passes Dash c)
  where
    by_test : (t : Bool) → AfterAtMost (length (c ∷ cs)) (cond t (Some (after (passes Space) (after (passes Dash) (c ∷ cs)))) None)
    by_test true = omega (arith, length-after (passes Dash) (c ∷ cs), length-after (passes Space) (after (passes Dash) (c ∷ cs)))
    by_test false = tt

weaker : (n m : ℕ) (o : Option (List ℕ)) → n ≤ m → AfterAtMost n o → AfterAtMost m o
weaker n m None le less = tt
weaker n m (Some rest) le less = omega arith

last-leaves : (first n : ℕ) (cs : List ℕ) → length cs ≤ n → IfOk (last_following first cs) (LeavesAtMost n)
last-leaves first n cs le = by_dashes (dashes_after cs) (weaker (length (after (passes Space) cs)) n (dashes_after cs) (omega (arith, length-after (passes Space) cs)) (dashes_from-leave (after (passes Space) cs)))
  where
    by_dashes : (o : Option (List ℕ)) → AfterAtMost n o → IfOk (last_from first cs o) (LeavesAtMost n)
    by_dashes None less = le
    by_dashes (Some rest) less = bind_if_ok (LeavesAtMost (length rest)) (LeavesAtMost n) (page_at rest) (λ last. Ok (from_to first last.0, last.1)) (page-leaves rest) (λ p fewer. omega arith)

range-leaves : (n : ℕ) (cs : List ℕ) → length cs ≤ n → IfOk (range_at cs) (LeavesAtMost n)
unfolding range_at
range-leaves n cs le = bind_if_ok (LeavesAtMost (length cs)) (LeavesAtMost n) (page_at cs) (λ first. last_following first.0 first.1) (page-leaves cs) (λ p less. last-leaves p.0 n p.1 (omega arith))

comma_from-leaves : (cs : List ℕ) → AfterLess (length cs) (comma_from cs)
comma_from-leaves [] = tt
comma_from-leaves (c ∷ cs) = by_test (eqb c comma || eqb c ampersand)
  where
    by_test : (t : Bool) → AfterLess (length (c ∷ cs)) (cond t (Some (after (passes Space) cs)) None)
    by_test true = omega (arith, length-after (passes Space) cs)
    by_test false = tt

-- what was given and what was left
abbrev given : {X : Type 0} → X → List ℕ → Result (X × List ℕ) Unreadable
given x rest = Ok (x, rest)

given_is : {X : Type 0} (x y : X) (more rest : List ℕ) → given x more ≡ given y rest → (x ≡ y) × (more ≡ rest)
given_is {X} x y more rest e =
    let same : (x, more) ≡ (y, rest) = ok_is {F = Unreadable} (x, more) (y, rest) e in
    (ap (λ (p : X × List ℕ). p.0) same, ap (λ (p : X × List ℕ). p.1) same)

abbrev some_range : Result (Range ℕ × List ℕ) Unreadable → Result (Option (Range ℕ) × List ℕ) Unreadable
some_range r = r >>= λ p. Ok (Some p.0, p.1)

pub ranges_shorten : Shortens next_range_at
unfolding next_range_at
ranges_shorten text rest x is = by_comma (comma_after text) (comma_from-leaves (after (passes Space) text)) is
  where
    by_range : (more : List ℕ) → length more < length text → (r : Result (Range ℕ × List ℕ) Unreadable) → IfOk r (LeavesAtMost (length more)) → some_range r ≡ Ok (Some x, rest) → length rest < length text
    by_range more less (Ok p) most e = omega (arith, ap length (given_is (Some p.0) (Some x) p.1 rest e).1)
    by_range more less (Err f) most e = absurd cc

    by_comma : (o : Option (List ℕ)) → AfterLess (length (after (passes Space) text)) o → range_from text o ≡ Ok (Some x, rest) → length rest < length text
    by_comma None less e =
        let none = (given_is None (Some x) text rest e).0 in
        absurd cc
    by_comma (Some more) less e = by_range more (omega (arith, length-after (passes Space) text)) (range_at more) (range-leaves (length more) more (omega arith)) e

-- what the ranges that are left make of those so far
unfoldable pub ranges_onto : List (Range ℕ) → List ℕ → Result (List (Range ℕ) × List ℕ) Unreadable
ranges_onto rs cs = each next_range_at cs >>= λ p. Ok (rs ++ p.0, p.1)

-- where a first range stands, what is left makes of it all ranges of the text
pub ranges_onto-first : (cs rest : List ℕ) (r : Range ℕ) → range_at cs ≡ Ok (r, rest) → ranges_onto (r ∷ []) rest ≡ ranges_at cs
unfolding ranges_onto ranges_at
ranges_onto-first cs rest r is = rw is refl

-- where no range stands first, the text has the fault of that
pub ranges_at-err : (cs : List ℕ) (f : Unreadable) → range_at cs ≡ Err f → ranges_at cs ≡ Err f
unfolding ranges_at
ranges_at-err cs f is = rw is refl

-- a further range stands after those so far
pub ranges_onto-some : (rs : List (Range ℕ)) (r : Range ℕ) (cs rest : List ℕ) → next_range_at cs ≡ Ok (Some r, rest) → ranges_onto rs cs ≡ ranges_onto (rs ++ r ∷ []) rest
unfolding ranges_onto
ranges_onto-some rs r cs rest is =
    ap (λ (p : Result (List (Range ℕ) × List ℕ) Unreadable). p >>= λ p. Ok (rs ++ p.0, p.1)) (each-some next_range_at ranges_shorten cs rest r is)
    ∙ bind_bind (each next_range_at rest) (λ p. Ok (r ∷ p.0, p.1)) (λ p. Ok (rs ++ p.0, p.1))
    ∙ ap (λ (f : List (Range ℕ) × List ℕ → Result (List (Range ℕ) × List ℕ) Unreadable). each next_range_at rest >>= f) (λ i p. Ok (sym (append_assoc rs (r ∷ []) p.0) i, p.1))

-- where no further range follows, the ranges so far are all
pub ranges_onto-end : (rs : List (Range ℕ)) (cs rest : List ℕ) → next_range_at cs ≡ Ok (None, rest) → ranges_onto rs cs ≡ Ok (rs ++ [], rest)
unfolding ranges_onto
ranges_onto-end rs cs rest is = rw (each-none next_range_at cs rest is) refl

-- a comma that no range follows is a fault
pub ranges_onto-err : (rs : List (Range ℕ)) (cs : List ℕ) (f : Unreadable) → next_range_at cs ≡ Err f → ranges_onto rs cs ≡ Err f
unfolding ranges_onto
ranges_onto-err rs cs f is = rw (each-err next_range_at cs f is) refl
