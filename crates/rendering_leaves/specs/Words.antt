-- The numbers of texts in a form. A word stands between white space, dashes, commas and ampersands; it is changed where it is a number in
-- digits alone, so that numbers with letters stay as they are.
use Rattle.std.specs.Prelude.{ℕ, ◌&&◌, ◌||◌, Bool, true, false, not, List, [], ◌∷◌, ◌++◌, if◌then◌else◌, Option, Some, None, Result, Ok, Err, ℤ}
use Rattle.std.specs.Char.{is_whitespace}
use Rattle.laws.specs.Runs.{prefix_of}
use Rattle.laws.specs.Text.{is_filled}
use Rattle.texts.specs.Reading.{number_at}
use Rattle.texts.specs.declared.reader.Unreadable.{Unreadable}
use Rattle.literature_numbers.specs.Numerics.{Numeral}
use Rattle.literature_values.specs.TypedViews.{ValueOrText}
use Rattle.rendering_locale.specs.Locales.{Ordinals}
use Rattle.rendering_numbers.specs.Numbers.{number_text, numeral_or_text}
use Rattle.rendering_context.specs.Stretches.{is_numeric_text, is_range_sign}
use Rattle.rendering_taxonomy.specs.declared.number.NumberForm.{NumberForm}
use Rattle.rendering_taxonomy.specs.declared.number.NumberForm.TheVariants as forms

-- a character of a word
abbrev pub is_of_word : ℕ → Bool
is_of_word c = not (is_whitespace c || is_range_sign c)

-- a number that was read, where nothing follows it
abbrev pub lone_number : Result (ℤ × List ℕ) Unreadable → Option ℤ
lone_number (Ok n) = if is_filled n.1 then None else Some n.0
lone_number (Err e) = None

-- a number in a form, or the word that is none
abbrev pub number_or : Ordinals → NumberForm → List ℕ → Option ℤ → List ℕ
number_or o form word None = word
number_or o form word (Some n) = number_text o form n

-- a word, with its number in a form where it is one in digits alone
abbrev pub word_in : Ordinals → NumberForm → List ℕ → List ℕ
word_in o form word = number_or o form word (lone_number (number_at word))

-- What is printed at a character with which the rest of a text begins: at the first one of a word the whole word, at the others of it
-- nothing, and any other character itself; whether a word has begun before it.
abbrev pub printed_at : Ordinals → NumberForm → Bool → ℕ → List ℕ → List ℕ
printed_at o form is_inside c rest =
    if not (is_of_word c) then c ∷ []
    else if is_inside then []
    else word_in o form (prefix_of is_of_word rest)

abbrev pub words_after : Ordinals → NumberForm → Bool → List ℕ → List ℕ
words_after o form is_inside [] = []
words_after o form is_inside (c ∷ cs) =
    printed_at o form is_inside c (c ∷ cs) ++ words_after o form (is_of_word c) cs

-- a text, each of whose words that is a number in digits alone is in a form
abbrev pub words_in : Ordinals → NumberForm → List ℕ → List ℕ
words_in o form cs = words_after o form false cs

-- whether a form is another one than digits
abbrev pub is_other_form : NumberForm → Bool
is_other_form forms.Numeric = false
is_other_form form = true

-- a text in a form, which changes it where it counts as numbers
abbrev pub in_form : Ordinals → NumberForm → List ℕ → List ℕ
in_form o form cs = if is_other_form form && is_numeric_text cs then words_in o form cs else cs

-- A number, or a text instead of it, in a form. In a published style what it prints in digits is put in the form, so that a number beside
-- letters stays as it is.
abbrev pub number_in : Bool → Ordinals → NumberForm → ValueOrText Numeral → List ℕ
number_in is_published o form n =
    if is_published then in_form o form (numeral_or_text o forms.Numeric n)
    else numeral_or_text o form n
