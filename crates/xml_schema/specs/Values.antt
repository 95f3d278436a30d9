-- Which values an attribute may have. Values and the words of a schema are bytes; numbers and white space are looked for in the characters of a
-- value.
use Rattle.std.specs.Prelude.{ℕ, Bool, true, ◌==◌, ◌&&◌, ◌||◌, List, length, is_ok}
use Rattle.std.specs.List.{list_any, list_all, slice_split}
use Rattle.std.specs.Str.{bytes_eq, chars}
use Rattle.laws.specs.Characters.{space, hyphen}
use Rattle.laws.specs.Results.{◌>>=◌}
use Rattle.laws.specs.Text.{is_filled}
use Rattle.texts.specs.Reading.{number_at, taken, end_at}
use Rattle.xml_text.specs.Reading.{after_space}
use Rattle.xml_schema.specs.Tables.{Text, Values, Words}
use Rattle.xml_schema.specs.declared.schema.Values.TheVariants as values

-- a text is one of these words
abbrev pub is_among : List Text → List ℕ → Bool
is_among words t = list_any (λ (w : Text). bytes_eq t w.now) words

-- a text is a word of one of these groups
abbrev pub is_in_group : List Words → List ℕ → Bool
is_in_group groups t = list_any (λ (g : Words). is_among g.now t) groups

-- characters are nothing but the digits of a number, which is 2147483647 at most; zeros may stand before it
abbrev pub is_number_alone : List ℕ → Bool
is_number_alone cs = is_ok (number_at cs >>= λ n. end_at n.1)

-- there is more than white space
abbrev pub has_words : List ℕ → Bool
has_words cs = is_filled (after_space cs)

-- a part of a text is empty, or is a word of one of these groups
abbrev pub is_empty_or_in_group : List Words → List ℕ → Bool
is_empty_or_in_group groups part = length part == 0 || is_in_group groups part

-- each part of a text between spaces is so
abbrev pub are_in_group : List Words → List ℕ → Bool
are_in_group groups t = list_all (is_empty_or_in_group groups) (slice_split (λ b. b == space) t)

-- a text is a value that the attribute may have
abbrev pub allows : Values → List ℕ → Bool
allows values.Any t = true
allows values.Number t = is_number_alone (chars t)
allows values.Signed t = is_number_alone (taken hyphen (chars t)).1
allows (values.OneOf groups) t = is_in_group groups.now t
allows (values.SomeOf groups) t = has_words (chars t) && are_in_group groups.now t
