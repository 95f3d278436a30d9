-- Numbers with letters before and after that were written are read back.
use Rattle.std.proofs.Common.{◌≡◌, ℕ, List, [], ◌∷◌, ◌++◌, Option, Some, None, Result, Ok, Err, refl, sym, ap, ◌∙◌, arith, append-nil}
use Rattle.laws.specs.Runs.{prefix_of, after, AllPassTest}
use Rattle.laws.specs.Results.{GivesBack, GivesOrRefuses}
use Rattle.laws.specs.Text.{if_filled}
use Rattle.laws.proofs.Results.{gives_back_or_refuses}
use Rattle.laws.proofs.Runs.{cuts}
use Rattle.texts.specs.Character.{passes}
use Rattle.literature_numbers.specs.Numerics.{Numeral, numeral_of}
use Rattle.literature_numbers.specs.NumericText.{value_text, affix_text, numeral_text, IsAffix, IsReadable}
use Rattle.texts.specs.declared.character.Class.TheVariants.{Letter}
use Rattle.literature_numbers.specs.Views.{numeral_view, refusal_of}
use Rattle.literature_numbers.specs.declared.numeric.Numeric.{Numeric}
use Rattle.literature_numbers.specs.declared.numeric.NumericError.{NumericError}
use Rattle.texts.specs.declared.reader.Unreadable.{Unreadable}
use Rattle.texts.proofs.ReadingStarts.{digit_bars}
use Rattle.literature_numbers.proofs.NumbersAgain.{value_again, value_starts}

affix_letters : (a : Option (List ℕ)) → IsAffix a → AllPassTest (passes Letter) (affix_text a)
affix_letters None is = tt
affix_letters (Some cs) is = is.1

affix_again : (a : Option (List ℕ)) → IsAffix a → if_filled (affix_text a) ≡ a
affix_again None is = refl
affix_again (Some []) is =
    let long = is.0 in
    absurd (omega arith)
affix_again (Some (c ∷ cs)) is = refl

-- what was written is read back
pub numeral_again : (n : Numeral) → IsReadable n → numeral_of (numeral_text n) ≡ Ok n
unfolding numeral_of
numeral_again n is =
    let following : List ℕ = affix_text n.suffix in
    let middle : List ℕ = value_text n.value ++ following in
    let letters : AllPassTest (passes Letter) following = affix_letters n.suffix is.suffix in
    let first = cuts (passes Letter) (affix_text n.prefix) middle (affix_letters n.prefix is.prefix) (digit_bars middle (value_starts n.value following is.value)).0 in
    let value = value_again n.value following is.value letters in
    let last = cuts (passes Letter) following [] letters tt in
    let last_leading : prefix_of (passes Letter) following ≡ following = ap (prefix_of (passes Letter)) (sym (append-nil following)) ∙ last.prefix in
    let last_after : after (passes Letter) following ≡ [] = ap (after (passes Letter)) (sym (append-nil following)) ∙ last.after in
    let prefix = affix_again n.prefix is.prefix in
    let suffix = affix_again n.suffix is.suffix in
    let read = value.1 in
    let is_value = value.2 in
    rw (first.after, first.prefix, read, last_after, last_leading, is_value, prefix, suffix) refl

-- so what means what was written is what was written
pub read_back : (r : Result Numeric NumericError) (cs : List ℕ) → GivesOrRefuses refusal_of numeral_view r (numeral_of cs) → (n : Numeral) → IsReadable n → cs ≡ numeral_text n → GivesBack refusal_of numeral_view r n
read_back r cs means n is e = gives_back_or_refuses Unreadable refusal_of numeral_view r n (rw (ap numeral_of e ∙ numeral_again n is) at means)
