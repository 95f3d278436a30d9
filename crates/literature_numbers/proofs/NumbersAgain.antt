-- Numbers that were written are read back.
use Rattle.std.proofs.Common.{◌≡◌, ℕ, List, [], ◌∷◌, ◌++◌, Option, Some, None, Result, Ok, ℤ, refl, sym, ap, ◌∙◌, arith, subst, append_assoc}
use Rattle.std.specs.Fmt.{signed_decimal}
use Rattle.std.specs.List.{flat_map}
use Rattle.laws.specs.Results.{◌>>=◌}
use Rattle.laws.specs.Runs.{AllPassTest, Bars}
use Rattle.laws.specs.Steps.{each}
use Rattle.laws.proofs.Steps.{each-none, each-some}
use Rattle.texts.specs.Character.{passes}
use Rattle.texts.specs.Reading.{number_at}
use Rattle.literature_numbers.specs.Numerics.{Numbers, Value, Number, Set, linked, value_of, next_number_at, numbers_at}
use Rattle.literature_numbers.specs.NumericText.{delimiter_text, separator_text, linked_text, value_text, IsCount, AreLinked, IsReadableValue}
use Rattle.texts.specs.declared.character.Class.TheVariants.{Letter, Digit}
use Rattle.literature_numbers.specs.declared.separator.NumericDelimiter.{NumericDelimiter}
use Rattle.literature_numbers.specs.declared.separator.NumericDelimiter.TheVariants.{Comma, Ampersand, Hyphen}
use Rattle.texts.specs.declared.reader.Unreadable.{Unreadable}
use Rattle.literature_numbers.proofs.NumbersShorter.{numbers_shorten}
use Rattle.texts.proofs.ReadingStarts.{Starts, decimal_starts, number_again}
use Rattle.literature_numbers.proofs.NumbersSeparators.{delimiter_again, letters_bar, no_separator}

-- no digit begins a separator
delimiter_bars : (d : NumericDelimiter) (cs : List ℕ) → Bars (passes Digit) (delimiter_text d ++ cs)
unfolding passes
delimiter_bars Comma cs = refl
delimiter_bars Ampersand cs = refl
delimiter_bars Hyphen cs = refl

-- what follows a number is no digit
after_number : (o : Option NumericDelimiter) (ns : Numbers) (n : ℤ) (rest : List ℕ) → AreLinked ((n, o) ∷ ns) → AllPassTest (passes Letter) rest
    → Bars (passes Digit) (separator_text o ++ (flat_map linked_text ns ++ rest))
after_number None [] n rest are letters = letters_bar rest letters
after_number None (m ∷ ns) n rest are letters = absurd cc
after_number (Some d) ns n rest are letters = delimiter_bars d (flat_map linked_text ns ++ rest)

-- a number that was written is read back
count_again : (z : ℤ) (rest : List ℕ) → IsCount z → Bars (passes Digit) rest → number_at (signed_decimal z ++ rest) ≡ Ok (z, rest)
count_again z rest count bars =
    subst (λ (y : ℤ). number_at (signed_decimal y ++ rest) ≡ Ok (y, rest)) (sym count.2) (number_again count.0 rest count.1 bars)

pub count_starts : (z : ℤ) (rest : List ℕ) → IsCount z → Starts (passes Digit) (signed_decimal z ++ rest)
count_starts z rest count = subst (λ (y : ℤ). Starts (passes Digit) (signed_decimal y ++ rest)) (sym count.2) (decimal_starts count.0 rest count.1)

-- a separator and a number that were written are read back
next_again : (d : NumericDelimiter) (z : ℤ) (rest : List ℕ) → IsCount z → Bars (passes Digit) rest → next_number_at (delimiter_text d ++ (signed_decimal z ++ rest)) ≡ Ok (Some (d, z), rest)
unfolding next_number_at
next_again d z rest count bars =
    let s = delimiter_again d (signed_decimal z ++ rest) (count_starts z rest count) in
    let n = count_again z rest count bars in
    rw (s, n) refl

-- before letters stands no further number
no_next : (rest : List ℕ) → AllPassTest (passes Letter) rest → next_number_at rest ≡ Ok (None, rest)
unfolding next_number_at
no_next rest letters = rw (no_separator rest letters) refl

first_count : (n : ℤ × Option NumericDelimiter) (ns : Numbers) → AreLinked (n ∷ ns) → IsCount n.0
first_count n [] are = are.0
first_count n (m ∷ ns) are = are.0

-- the numbers after a first one, and what is read of them
record Again (n : ℤ) (o : Option NumericDelimiter) (ns : Numbers) (rest : List ℕ) : Type 0 where
  others : List (NumericDelimiter × ℤ)
  read : each next_number_at (separator_text o ++ (flat_map linked_text ns ++ rest)) ≡ Ok (others, rest)
  links : linked n others ≡ (n, o) ∷ ns

one_text : (n : ℤ × Option NumericDelimiter) (ns : Numbers) (rest : List ℕ)
    → flat_map linked_text (n ∷ ns) ++ rest ≡ signed_decimal n.0 ++ (separator_text n.1 ++ (flat_map linked_text ns ++ rest))
one_text n ns rest =
    append_assoc (linked_text n) (flat_map linked_text ns) rest ∙ append_assoc (signed_decimal n.0) (separator_text n.1) (flat_map linked_text ns ++ rest)

numbers_after : (ns : Numbers) (o : Option NumericDelimiter) (n : ℤ) (rest : List ℕ) → AreLinked ((n, o) ∷ ns) → AllPassTest (passes Letter) rest → Again n o ns rest
numbers_after [] None n rest are letters = record { others = []; read = each-none next_number_at rest rest (no_next rest letters); links = refl }
numbers_after [] (Some d) n rest are letters =
    let other = are.1 in
    absurd cc
numbers_after (m ∷ ns) None n rest are letters =
    let none = are.1 in
    absurd cc
numbers_after (m ∷ ns) (Some d) n rest are letters =
    let more = numbers_after ns m.1 m.0 rest are.2 letters in
    let left : List ℕ = separator_text m.1 ++ (flat_map linked_text ns ++ rest) in
    let step : next_number_at (delimiter_text d ++ (flat_map linked_text (m ∷ ns) ++ rest)) ≡ Ok (Some (d, m.0), left)
    = ap (λ (t : List ℕ). next_number_at (delimiter_text d ++ t)) (one_text m ns rest) ∙ next_again d m.0 left (first_count m ns are.2) (after_number m.1 ns m.0 rest are.2 letters) in
    record {
      others = (d, m.0) ∷ more.others;
      read = each-some next_number_at numbers_shorten (delimiter_text d ++ (flat_map linked_text (m ∷ ns) ++ rest)) left (d, m.0) step
          ∙ ap (λ (r : Result (List (NumericDelimiter × ℤ) × List ℕ) Unreadable). r >>= λ p. Ok ((d, m.0) ∷ p.0, p.1)) more.read;
      links = ap (λ (ms : Numbers). (n, Some d) ∷ ms) more.links;
    }

-- numbers that were written are read back
pub numbers_again : (n : ℤ × Option NumericDelimiter) (ns : Numbers) (rest : List ℕ) → AreLinked (n ∷ ns) → AllPassTest (passes Letter) rest
    → numbers_at (flat_map linked_text (n ∷ ns) ++ rest) ≡ Ok (n ∷ ns, rest)
unfolding numbers_at
numbers_again n ns rest are letters =
    let more = numbers_after ns n.1 n.0 rest are letters in
    let left : List ℕ = separator_text n.1 ++ (flat_map linked_text ns ++ rest) in
    let first : number_at (flat_map linked_text (n ∷ ns) ++ rest) ≡ Ok (n.0, left)
    = ap number_at (one_text n ns rest) ∙ count_again n.0 left (first_count n ns are) (after_number n.1 ns n.0 rest are letters) in
    let others = more.read in
    let links = more.links in
    rw (first, others, links) refl

-- a value that was written is read back
pub value_again : (v : Value) (rest : List ℕ) → IsReadableValue v → AllPassTest (passes Letter) rest
    → (ns : Numbers) × (numbers_at (value_text v ++ rest) ≡ Ok (ns, rest)) × (value_of ns ≡ v)
value_again (Number z) rest count letters =
    let one = numbers_again (z, None) [] rest (count, refl) letters in
    let same : flat_map linked_text ((z, None) ∷ []) ++ rest ≡ signed_decimal z ++ rest = one_text (z, None) [] rest in
    ((z, None) ∷ [], sym (ap numbers_at same) ∙ one, refl)
value_again (Set []) rest set letters = absurd (omega arith)
value_again (Set (n ∷ [])) rest set letters =
    let two = set.0 in
    absurd (omega arith)
value_again (Set (n ∷ m ∷ ns)) rest set letters = (n ∷ m ∷ ns, numbers_again n (m ∷ ns) rest set.1 letters, refl)

-- a value begins with a digit
pub value_starts : (v : Value) (rest : List ℕ) → IsReadableValue v → Starts (passes Digit) (value_text v ++ rest)
value_starts (Number z) rest count = count_starts z rest count
value_starts (Set []) rest set = absurd (omega arith)
value_starts (Set (n ∷ ns)) rest set =
    subst (λ (t : List ℕ). Starts (passes Digit) t) (sym (one_text n ns rest)) (count_starts n.0 (separator_text n.1 ++ (flat_map linked_text ns ++ rest)) (first_count n ns set.1))
