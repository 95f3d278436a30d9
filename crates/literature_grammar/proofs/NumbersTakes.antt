-- What is read as numbers with letters the grammar relates to the text.
use Rattle.std.proofs.Common.{◌≡◌, ℕ, zero, suc, ◌^◌, Bool, true, false, cond, ◌&&◌, eqb, ltb, List, [], ◌∷◌, length, Option, Some, None, Ok, ℤ, pos, refl, sym, ap, ◌∙◌, subst, arith}
use Rattle.std.proofs.lemmas.Bool.{eqb-true, ltb-true, and_parts}
use Rattle.std.specs.Char.{is_ascii_digit, is_ascii_alphabetic}
use Rattle.std.specs.Str.Parse.{digits_value}
use Rattle.laws.specs.Runs.{prefix_of, after}
use Rattle.laws.specs.Steps.{go_on, each_below, each}
use Rattle.laws.specs.Text.{if_filled}
use Rattle.laws.proofs.Results.{bind_ok, test_ok}
use Rattle.texts.specs.Character.{passes}
use Rattle.texts.specs.Reading.{number_at, end_at}
use Rattle.texts.specs.declared.character.Class.TheVariants.{Letter, Digit, Space, Dash}
use Rattle.texts.specs.declared.reader.Unreadable.TheVariants.{NotThere}
use Rattle.literature_numbers.specs.Numbers.{delimiter_at, between, separator_at}
use Rattle.literature_numbers.specs.Numerics.{Numbers, Numeral, linked, value_of, number_after, next_number_at, numbers_at, numeral_of}
use Rattle.literature_numbers.specs.declared.separator.NumericDelimiter.{NumericDelimiter}
use Rattle.literature_numbers.specs.declared.separator.NumericDelimiter.TheVariants.{Comma, Ampersand, Hyphen}
use Rattle.literature_grammar.specs.Numbers.{IsOf, IsNumber, AreLetters, is_dash, IsMark, IsSeparator, AreNumbers, AreOf, IsNumeral}
use Rattle.literature_grammar.proofs.NumberRuns.{given, digits_alike, letters_alike, dashes_alike, run, spaces-take, end-takes}
use Rattle.literature_grammar.proofs.NumbersAgain.{AreOthers}

number-takes : (cs : List ℕ) (p : ℤ × List ℕ) → number_at cs ≡ Ok p → IsNumber cs p.0 p.1
number-takes cs p e =
    let ds : List ℕ = prefix_of (passes Digit) cs in
    let t = test_ok (ltb 0 (length ds) && ltb (digits_value 10 ds) (2 ^ 31)) (Ok (pos (digits_value 10 ds), after (passes Digit) cs)) NotThere p e in
    let both = and_parts (ltb 0 (length ds)) (ltb (digits_value 10 ds) (2 ^ 31)) t.0 in
    given (λ (q : ℤ × List ℕ). IsNumber cs q.0 q.1) (pos (digits_value 10 ds), after (passes Digit) cs) p t.1
    (ds, run (passes Digit) is_ascii_digit digits_alike cs, ltb-true _ _ both.0, ltb-true _ _ both.1, refl)

-- what is read as a mark is one
abbrev IsMarked : List ℕ → Option (NumericDelimiter × List ℕ) → Type 0
IsMarked cs None = Unit {0}
IsMarked cs (Some (d, rest)) = IsMark cs d rest

mark-takes : (cs : List ℕ) → IsMarked cs (delimiter_at cs)
mark-takes [] = tt
mark-takes (c ∷ cs) = by_tests (eqb c 44) (eqb c 38) (passes Dash c) refl refl refl
  where
    by_tests : (a b d : Bool) → eqb c 44 ≡ a → eqb c 38 ≡ b → passes Dash c ≡ d
        → IsMarked (c ∷ cs) (cond a (Some (Comma, cs)) (cond b (Some (Ampersand, cs)) (cond d (Some (Hyphen, after (passes Dash) cs)) None)))
    by_tests true b d e f g = ap (λ (x : ℕ). x ∷ cs) (eqb-true c 44 e)
    by_tests false true d e f g = ap (λ (x : ℕ). x ∷ cs) (eqb-true c 38 f)
    by_tests false false true e f g =
        let dashes = run (passes Dash) is_dash dashes_alike cs in
        (c ∷ prefix_of (passes Dash) cs, (ap (λ (x : List ℕ). c ∷ x) dashes.0, (sym (dashes_alike c) ∙ g, dashes.1)), omega arith)
    by_tests false false false e f g = tt

-- what is read as a separator is one, and where none is read nothing is taken
abbrev IsSeparated : List ℕ → Option NumericDelimiter × List ℕ → Type 0
IsSeparated cs (None, rest) = cs ≡ rest
IsSeparated cs (Some d, rest) = IsSeparator cs d rest

separator-takes : (cs : List ℕ) → IsSeparated cs (separator_at cs)
unfolding separator_at
separator-takes cs = by_mark (delimiter_at (after (passes Space) cs)) (mark-takes (after (passes Space) cs))
  where
    by_mark : (o : Option (NumericDelimiter × List ℕ)) → IsMarked (after (passes Space) cs) o → IsSeparated cs (between cs o)
    by_mark None is = refl
    by_mark (Some (d, rest)) is = (after (passes Space) cs, rest, spaces-take cs, is, spaces-take rest)

-- a separator and a number, or nothing
abbrev IsNext : List ℕ → Option (NumericDelimiter × ℤ) × List ℕ → Type 0
IsNext cs (None, rest) = cs ≡ rest
IsNext cs (Some (d, z), rest) = (a : List ℕ) × IsSeparator cs d a × IsNumber a z rest

next-takes : (cs : List ℕ) (p : Option (NumericDelimiter × ℤ) × List ℕ) → next_number_at cs ≡ Ok p → IsNext cs p
unfolding next_number_at
next-takes cs p e = by_separator (separator_at cs) (separator-takes cs) e
  where
    by_separator : (s : Option NumericDelimiter × List ℕ) → IsSeparated cs s → number_after s ≡ Ok p → IsNext cs p
    by_separator (None, rest) is h = given (IsNext cs) (None, rest) p h is
    by_separator (Some d, rest) is h =
        let n = bind_ok (number_at rest) _ p h in
        given (IsNext cs) (Some (d, n.0.0), n.0.1) p n.2 (rest, is, number-takes rest n.0 n.1)

others-below : (k : ℕ) (cs : List ℕ) (p : List (NumericDelimiter × ℤ) × List ℕ) → each_below k next_number_at cs ≡ Ok p → AreOthers cs p.0 p.1
unfolding each_below
others-below zero cs p e = given (λ (q : List (NumericDelimiter × ℤ) × List ℕ). AreOthers cs q.0 q.1) ([], cs) p e refl
others-below (suc k) cs p e =
    let next = bind_ok (next_number_at cs) _ p e in
    by_next (λ rest q is. others-below k rest q is) next.0 (next-takes cs next.0 next.1) next.2
  where
    Are : List (NumericDelimiter × ℤ) × List ℕ → Type 0
    Are q = AreOthers cs q.0 q.1

    by_next : ((rest : List ℕ) (q : List (NumericDelimiter × ℤ) × List ℕ) → each_below k next_number_at rest ≡ Ok q → AreOthers rest q.0 q.1)
        → (o : Option (NumericDelimiter × ℤ) × List ℕ) → IsNext cs o → go_on (λ rest. each_below k next_number_at rest) o.0 o.1 ≡ Ok p → Are p
    by_next more (None, rest) is h = given Are ([], rest) p h is
    by_next more (Some (d, z), rest) (a, separator, number) h =
        let others = bind_ok (each_below k next_number_at rest) _ p h in
        given Are ((d, z) ∷ others.0.0, others.0.1) p others.2 (a, rest, separator, number, more rest others.0 others.1)

others-take : (cs : List ℕ) (p : List (NumericDelimiter × ℤ) × List ℕ) → each next_number_at cs ≡ Ok p → AreOthers cs p.0 p.1
unfolding each
others-take cs p e = others-below (suc (length cs)) cs p e

-- a first number, and those with the separators before them, are numbers
links-are : (others : List (NumericDelimiter × ℤ)) (z : ℤ) (cs a rest : List ℕ) → IsNumber cs z a → AreOthers a others rest → AreNumbers cs (linked z others) rest
links-are [] z cs a rest number e = (subst (λ (x : List ℕ). IsNumber cs z x) e number, refl)
links-are ((d, y) ∷ others) z cs a rest number (b, c, separator, next, more) = (a, b, number, separator, links-are others y b c rest next more)

pub numbers-take : (cs : List ℕ) (p : Numbers × List ℕ) → numbers_at cs ≡ Ok p → AreNumbers cs p.0 p.1
unfolding numbers_at
numbers-take cs p e =
    let first = bind_ok (number_at cs) _ p e in
    let others = bind_ok (each next_number_at first.0.1) _ p first.2 in
    given (λ (q : Numbers × List ℕ). AreNumbers cs q.0 q.1) (linked first.0.0 others.0.0, others.0.1) p others.2
    (links-are others.0.0 first.0.0 cs first.0.1 others.0.1 (number-takes cs first.0 first.1) (others-take first.0.1 others.0 others.1))

value-takes : (ns : Numbers) (cs rest : List ℕ) → AreNumbers cs ns rest → AreOf ns (value_of ns)
value-takes [] cs rest are = absurd are
value-takes ((z, None) ∷ []) cs rest are = refl
value-takes ((z, Some d) ∷ []) cs rest (a, b, number, separator, none) = absurd none
value-takes (n ∷ m ∷ ns) cs rest are = (refl, omega arith)

letters-take : (cs : List ℕ) → AreLetters cs (if_filled (prefix_of (passes Letter) cs)) (after (passes Letter) cs)
letters-take cs = by_prefix (prefix_of (passes Letter) cs) (run (passes Letter) is_ascii_alphabetic letters_alike cs)
  where
    by_prefix : (t : List ℕ) → IsOf is_ascii_alphabetic cs t (after (passes Letter) cs) → AreLetters cs (if_filled t) (after (passes Letter) cs)
    by_prefix [] is = is.0
    by_prefix (c ∷ t) is = (is, omega arith)

pub numeral-takes : (cs : List ℕ) (n : Numeral) → numeral_of cs ≡ Ok n → IsNumeral cs n
unfolding numeral_of
numeral-takes cs n e =
    let first : List ℕ = after (passes Letter) cs in
    let numbers = bind_ok (numbers_at first) _ n e in
    let ns : Numbers = numbers.0.0 in
    let left : List ℕ = numbers.0.1 in
    let end = bind_ok (end_at (after (passes Letter) left)) _ n numbers.2 in
    let are = numbers-take first numbers.0 numbers.1 in
    let last = subst (λ (x : List ℕ). AreLetters left (if_filled (prefix_of (passes Letter) left)) x) (end-takes (after (passes Letter) left) end.0 end.1) (letters-take left) in
    given (IsNumeral cs) (record { value = value_of ns; prefix = if_filled (prefix_of (passes Letter) cs); suffix = if_filled (prefix_of (passes Letter) left) }) n end.2
    (first, left, ns, letters-take cs, are, value-takes ns first left are, last)
