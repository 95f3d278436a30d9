-- Numbers with letters that the grammar relates to a text are read.
use Rattle.std.proofs.Common.{◌≡◌, ℕ, ◌^◌, true, false, ltb, List, [], ◌∷◌, ◌++◌, length, Option, Some, None, Result, Ok, ℤ, refl, sym, ap, ◌∙◌, subst, arith}
use Rattle.std.proofs.lemmas.Bool.{lt-ltb}
use Rattle.std.specs.Char.{is_ascii_digit, is_ascii_alphabetic}
use Rattle.std.specs.Str.Parse.{digits_value}
use Rattle.laws.specs.Results.{◌>>=◌}
use Rattle.laws.specs.Runs.{prefix_of, after, AllPassTest, Bars}
use Rattle.laws.specs.Steps.{each}
use Rattle.laws.specs.Text.{if_filled}
use Rattle.laws.proofs.Results.{ok_is}
use Rattle.laws.proofs.Runs.{cuts}
use Rattle.laws.proofs.Steps.{each-none, each-some}
use Rattle.texts.specs.Character.{passes}
use Rattle.texts.specs.Reading.{number_at}
use Rattle.texts.specs.declared.character.Class.TheVariants.{Letter, Digit, Space, Dash}
use Rattle.texts.specs.declared.reader.Unreadable.{Unreadable}
use Rattle.texts.proofs.ReadingStarts.{Starts, digit_bars}
use Rattle.literature_numbers.specs.Numbers.{delimiter_at, separator_at}
use Rattle.literature_numbers.specs.Numerics.{Numbers, Value, Number, Set, Numeral, linked, value_of, next_number_at, numbers_at, numeral_of}
use Rattle.literature_numbers.specs.declared.separator.NumericDelimiter.{NumericDelimiter}
use Rattle.literature_numbers.specs.declared.separator.NumericDelimiter.TheVariants.{Comma, Ampersand, Hyphen}
use Rattle.literature_numbers.proofs.NumbersShorter.{numbers_shorten}
use Rattle.literature_numbers.proofs.NumbersSeparators.{letters_bar, no_separator}
use Rattle.literature_grammar.specs.Numbers.{IsNumber, AreLetters, is_dash, IsMark, IsSeparator, AreNumbers, AreOf, IsNumeral}
use Rattle.literature_grammar.proofs.NumberRuns.{digits_alike, letters_alike, dashes_alike, cut, all_letters, spaces-bar, spaces-again, dash_only}

pub number-again : (cs rest : List ℕ) (z : ℤ) → IsNumber cs z rest → Bars (passes Digit) rest → number_at cs ≡ Ok (z, rest)
number-again cs rest z (t, is, some, small, e) bars =
    let c = cut (passes Digit) is_ascii_digit digits_alike cs t rest is bars in
    let long : ltb 0 (length t) ≡ true = lt-ltb 0 (length t) some in
    let few : ltb (digits_value 10 t) (2 ^ 31) ≡ true = lt-ltb (digits_value 10 t) (2 ^ 31) small in
    rw (c.prefix, c.after, long, few) (ap (λ (y : ℤ). Ok (y, rest)) (sym e))

-- a number begins with a digit
number-starts : (cs rest : List ℕ) (z : ℤ) → IsNumber cs z rest → Starts (passes Digit) cs
number-starts cs rest z ([], is, some, small, e) = absurd (omega arith)
number-starts cs rest z (c ∷ t, (is, all), some, small, e) = record { first = c; others = t ++ rest; is = is; passes = digits_alike c ∙ all.0 }

-- where a mark stands, no space and no digit does
mark-bars : (cs rest : List ℕ) (d : NumericDelimiter) → IsMark cs d rest → Bars (passes Space) cs × Bars (passes Digit) cs
unfolding passes
mark-bars cs rest Comma e = (subst (λ (x : List ℕ). Bars (passes Space) x) (sym e) refl, subst (λ (x : List ℕ). Bars (passes Digit) x) (sym e) refl)
mark-bars cs rest Ampersand e = (subst (λ (x : List ℕ). Bars (passes Space) x) (sym e) refl, subst (λ (x : List ℕ). Bars (passes Digit) x) (sym e) refl)
mark-bars cs rest Hyphen ([], is, some) = absurd (omega arith)
mark-bars cs rest Hyphen (c ∷ t, (e, all), some) =
    let o = dash_only c all.0 in
    (subst (λ (x : List ℕ). Bars (passes Space) x) (sym e) o.0, subst (λ (x : List ℕ). Bars (passes Digit) x) (sym e) o.1)

mark-again : (cs rest : List ℕ) (d : NumericDelimiter) → IsMark cs d rest → Bars (passes Dash) rest → delimiter_at cs ≡ Some (d, rest)
mark-again cs rest Comma e bars = ap delimiter_at e
mark-again cs rest Ampersand e bars = ap delimiter_at e
mark-again cs rest Hyphen ([], is, some) bars = absurd (omega arith)
mark-again cs rest Hyphen (c ∷ t, (e, all), some) bars =
    let o = dash_only c all.0 in
    let comma = o.2 in
    let ampersand = o.3 in
    let dash : passes Dash c ≡ true = dashes_alike c ∙ all.0 in
    let left : after (passes Dash) (t ++ rest) ≡ rest = (cut (passes Dash) is_dash dashes_alike (t ++ rest) t rest (refl, all.1) bars).after in
    ap delimiter_at e ∙ (rw (comma, ampersand, dash, left) refl)

no_dash : passes Dash 32 ≡ false
unfolding passes
no_dash = refl

no_digit : passes Digit 32 ≡ false
unfolding passes
no_digit = refl

-- a separator before a digit
separator-again : (cs rest : List ℕ) (d : NumericDelimiter) → IsSeparator cs d rest → Starts (passes Digit) rest → separator_at cs ≡ (Some d, rest)
unfolding separator_at
separator-again cs rest d (a, b, before, mark, behind) digit =
    let bars = digit_bars rest digit in
    let first = spaces-again cs a before (mark-bars a b d mark).0 in
    let second = mark-again a b d mark (spaces-bar (passes Dash) b rest behind no_dash bars.2) in
    let third = spaces-again b rest behind bars.1 in
    rw (first, second, third) refl

separator-bars : (cs rest : List ℕ) (d : NumericDelimiter) → IsSeparator cs d rest → Bars (passes Digit) cs
separator-bars cs rest d (a, b, before, mark, behind) = spaces-bar (passes Digit) cs a before no_digit (mark-bars a b d mark).1

next-again : (cs a rest : List ℕ) (d : NumericDelimiter) (z : ℤ) → IsSeparator cs d a → IsNumber a z rest → Bars (passes Digit) rest → next_number_at cs ≡ Ok (Some (d, z), rest)
unfolding next_number_at
next-again cs a rest d z separator number bars =
    let s = separator-again cs a d separator (number-starts a rest z number) in
    let n = number-again a rest z number bars in
    rw (s, n) refl

-- before letters, and before nothing, stands no further number
pub no_next : (rest : List ℕ) → AllPassTest (passes Letter) rest → next_number_at rest ≡ Ok (None, rest)
unfolding next_number_at
no_next rest letters = let s = no_separator rest letters in rw s refl

-- numbers with the separators before them
abbrev pub AreOthers : List ℕ → List (NumericDelimiter × ℤ) → List ℕ → Type 0
AreOthers cs [] rest = cs ≡ rest
AreOthers cs ((d, z) ∷ others) rest = (a : List ℕ) × (b : List ℕ) × IsSeparator cs d a × IsNumber a z b × AreOthers b others rest

others-bar : (others : List (NumericDelimiter × ℤ)) (cs rest : List ℕ) → AreOthers cs others rest → Bars (passes Digit) rest → Bars (passes Digit) cs
others-bar [] cs rest e bars = subst (λ (x : List ℕ). Bars (passes Digit) x) (sym e) bars
others-bar ((d, z) ∷ others) cs rest (a, b, separator, number, more) bars = separator-bars cs a d separator

others-again : (others : List (NumericDelimiter × ℤ)) (cs rest : List ℕ) → AreOthers cs others rest → Bars (passes Digit) rest → next_number_at rest ≡ Ok (None, rest) → each next_number_at cs ≡ Ok (others, rest)
others-again [] cs rest e bars end = ap (each next_number_at) e ∙ each-none next_number_at rest rest end
others-again ((d, z) ∷ others) cs rest (a, b, separator, number, more) bars end =
    let step = next-again cs a b d z separator number (others-bar others b rest more bars) in
    let left = others-again others b rest more bars end in
    each-some next_number_at numbers_shorten cs b (d, z) step ∙ ap (λ (r : Result (List (NumericDelimiter × ℤ) × List ℕ) Unreadable). r >>= λ p. Ok ((d, z) ∷ p.0, p.1)) left

-- numbers as a first one and those with the separators before them
record Linked (cs : List ℕ) (ns : Numbers) (rest : List ℕ) : Type 0 where
  pub first : ℤ
  pub others : List (NumericDelimiter × ℤ)
  pub left : List ℕ
  pub links : linked first others ≡ ns
  pub number : IsNumber cs first left
  pub are : AreOthers left others rest

linked_parts : (ns : Numbers) (cs rest : List ℕ) → AreNumbers cs ns rest → Linked cs ns rest
linked_parts [] cs rest are = absurd are
linked_parts ((z, None) ∷ ns) cs rest (number, none) = record { first = z; others = []; left = rest; links = ap (λ (ms : Numbers). (z, None) ∷ ms) (sym none); number = number; are = refl }
linked_parts ((z, Some d) ∷ ns) cs rest (a, b, number, separator, more) =
    let l = linked_parts ns b rest more in
    record { first = z; others = (d, l.first) ∷ l.others; left = a; links = ap (λ (ms : Numbers). (z, Some d) ∷ ms) l.links; number = number; are = (b, l.left, separator, l.number, l.are) }

numbers-start : (ns : Numbers) (cs rest : List ℕ) → AreNumbers cs ns rest → Starts (passes Digit) cs
numbers-start ns cs rest are =
    let l = linked_parts ns cs rest are in
    number-starts cs l.left l.first l.number

pub numbers-again : (ns : Numbers) (cs rest : List ℕ) → AreNumbers cs ns rest → AllPassTest (passes Letter) rest → numbers_at cs ≡ Ok (ns, rest)
unfolding numbers_at
numbers-again ns cs rest are letters =
    let bars = letters_bar rest letters in
    let l = linked_parts ns cs rest are in
    let first = number-again cs l.left l.first l.number (others-bar l.others l.left rest l.are bars) in
    let others = others-again l.others l.left rest l.are bars (no_next rest letters) in
    let same = l.links in
    rw (first, others, same) refl

value-again : (ns : Numbers) (v : Value) → AreOf ns v → value_of ns ≡ v
value-again ns (Number z) e = ap value_of e
value-again ns (Set []) (e, long) = absurd (omega arith)
value-again ns (Set (m ∷ [])) (e, long) = absurd (omega arith)
value-again ns (Set (m ∷ k ∷ ms)) (e, long) = ap value_of e

-- letters, and what follows them
record Reads (cs rest : List ℕ) (letters : Option (List ℕ)) : Type 0 where
  pub prefix : if_filled (prefix_of (passes Letter) cs) ≡ letters
  pub after : after (passes Letter) cs ≡ rest

letters-again : (cs rest : List ℕ) (letters : Option (List ℕ)) → AreLetters cs letters rest → Bars (passes Letter) rest → Reads cs rest letters
letters-again cs rest None e bars =
    let c = cuts (passes Letter) [] rest tt bars in
    subst (λ (x : List ℕ). Reads x rest None) (sym e) (record { prefix = ap (λ (x : List ℕ). if_filled x) c.prefix; after = c.after })
letters-again cs rest (Some []) (is, some) bars = absurd (omega arith)
letters-again cs rest (Some (c ∷ t)) (is, some) bars =
    let k = cut (passes Letter) is_ascii_alphabetic letters_alike cs (c ∷ t) rest is bars in
    record { prefix = ap (λ (x : List ℕ). if_filled x) k.prefix; after = k.after }

last-letters : (cs : List ℕ) (letters : Option (List ℕ)) → AreLetters cs letters [] → AllPassTest (passes Letter) cs
last-letters cs None e = subst (AllPassTest (passes Letter)) (sym e) tt
last-letters cs (Some t) (is, some) = all_letters cs t is

pub numeral-again : (cs : List ℕ) (n : Numeral) → IsNumeral cs n → numeral_of cs ≡ Ok n
unfolding numeral_of
numeral-again cs n (a, b, ns, before, numbers, value, behind) =
    let first = letters-again cs a n.prefix before (digit_bars a (numbers-start ns a b numbers)).0 in
    let middle = numbers-again ns a b numbers (last-letters b n.suffix behind) in
    let last = letters-again b [] n.suffix behind tt in
    let same = value-again ns n.value value in
    rw (first.after, first.prefix, middle, last.after, last.prefix, same) refl

-- no text is that of two numbers with letters
pub unique : (cs : List ℕ) (m n : Numeral) → IsNumeral cs m → IsNumeral cs n → m ≡ n
unique cs m n is other = ok_is {F = Unreadable} m n (sym (numeral-again cs m is) ∙ numeral-again cs n other)
