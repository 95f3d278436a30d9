-- Separators that were written are read back.
use Rattle.std.proofs.Common.{◌≡◌, ℕ, true, false, List, [], ◌∷◌, ◌++◌, Some, None, refl, arith, eqb}
use Rattle.std.proofs.lemmas.Bool.Decides.{nat_tests}
use Rattle.laws.specs.Characters as character
use Rattle.laws.specs.Runs.{AllPassTest, Bars}
use Rattle.laws.proofs.Runs.{cuts}
use Rattle.texts.specs.Character.{passes}
use Rattle.literature_numbers.specs.Numbers.{separator_at}
use Rattle.literature_numbers.specs.NumericText.{delimiter_text}
use Rattle.texts.specs.declared.character.Class.TheVariants.{Letter, Digit, Space, Dash}
use Rattle.literature_numbers.specs.declared.separator.NumericDelimiter.{NumericDelimiter}
use Rattle.literature_numbers.specs.declared.separator.NumericDelimiter.TheVariants.{Comma, Ampersand, Hyphen}
use Rattle.texts.proofs.ReadingStarts.{Starts, digit_bars}

-- a letter is of no other class, and no comma or ampersand
letter_only : (c : ℕ) → passes Letter c ≡ true → (passes Digit c ≡ false) × (passes Space c ≡ false) × (passes Dash c ≡ false) × (eqb c character.comma ≡ false) × (eqb c character.ampersand ≡ false)
unfolding passes
letter_only c d = (grind (arith, nat_tests), grind (arith, nat_tests), grind (arith, nat_tests), grind (arith, nat_tests), grind (arith, nat_tests))

-- the separator that was written is the one that is read
pub delimiter_again : (d : NumericDelimiter) (cs : List ℕ) → Starts (passes Digit) cs → separator_at (delimiter_text d ++ cs) ≡ (Some d, cs)
unfolding separator_at passes
delimiter_again Comma cs s =
    let b = digit_bars cs s in
    let e = (cuts (passes Space) [] cs tt b.1).after in
    rw e refl
delimiter_again Ampersand cs s =
    let b = digit_bars cs s in
    let e = (cuts (passes Space) [] cs tt b.1).after in
    rw e refl
delimiter_again Hyphen cs s =
    let b = digit_bars cs s in
    let dashes = (cuts (passes Dash) [] cs tt b.2).after in
    let spaces = (cuts (passes Space) [] cs tt b.1).after in
    rw (dashes, spaces) refl

-- letters, up to the end of a text
pub letters_bar : (cs : List ℕ) → AllPassTest (passes Letter) cs → Bars (passes Digit) cs
letters_bar [] all = tt
letters_bar (c ∷ cs) all = (letter_only c all.0).0

-- before letters stands no separator
pub no_separator : (cs : List ℕ) → AllPassTest (passes Letter) cs → separator_at cs ≡ (None, cs)
unfolding separator_at
no_separator [] all = refl
no_separator (c ∷ cs) all =
    let o = letter_only c all.0 in
    let space = o.1 in
    let dash = o.2 in
    let comma = o.3 in
    let ampersand = o.4 in
    rw (space, comma, ampersand, dash) refl
