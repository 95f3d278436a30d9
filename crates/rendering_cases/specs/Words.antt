-- Where words begin in a text, and what is in them. Texts are characters.
use Rattle.std.specs.Prelude.{ℕ, Bool, true, false, not, ◌==◌, ◌&&◌, ◌||◌, List, [], ◌∷◌}
use Rattle.std.specs.Char.{is_whitespace}
use Rattle.std.specs.Char.Unicode.Alphabetic.{is_alphabetic}
use Rattle.std.specs.Char.Unicode.Lowercase.{is_lowercase}
use Rattle.std.specs.Char.Unicode.Numeric.{is_numeric}
use Rattle.std.specs.Char.Unicode.Uppercase.{is_uppercase}
use Rattle.std.specs.List.{list_all, list_any}
use Rattle.laws.specs.Characters.{colon, em_dash, en_dash, exclamation_mark, hyphen, question_mark, slash}
use Rattle.laws.specs.Runs.{prefix_of, after}

-- a letter or a digit
abbrev pub is_letter : ℕ → Bool
is_letter c = is_alphabetic c || is_numeric c

-- what parts words: white space, a hyphen, a slash, an en dash, an em dash
abbrev pub parts_words : ℕ → Bool
parts_words c = is_whitespace c || (c == hyphen || (c == slash || (c == en_dash || c == em_dash)))

-- what begins a title anew: a colon, a question mark, an exclamation mark
abbrev pub is_mark : ℕ → Bool
is_mark c = c == colon || (c == question_mark || c == exclamation_mark)

-- what may stand in a word
abbrev pub is_inside : ℕ → Bool
is_inside c = not (parts_words c)

-- the word that a text begins with
abbrev pub word : List ℕ → List ℕ
word cs = prefix_of is_inside cs

-- that word has no capital
abbrev pub is_small : List ℕ → Bool
is_small cs = not (list_any is_uppercase (word cs))

-- no letter follows that word
abbrev pub is_last : List ℕ → Bool
is_last cs = not (list_any is_letter (after is_inside cs))

-- no letter of a text is small
abbrev pub is_in_capitals : List ℕ → Bool
is_in_capitals cs = not (list_any is_lowercase cs)

-- Of what stands before a place, the nearest first: no letter of the same word
abbrev pub is_word_start : List ℕ → Bool
is_word_start [] = true
is_word_start (c ∷ cs) = parts_words c || (not (is_letter c) && is_word_start cs)

-- no letter at all
abbrev pub is_text_start : List ℕ → Bool
is_text_start cs = list_all (λ c. not (is_letter c)) cs

-- a mark, and no letter after it
abbrev pub is_after_mark : List ℕ → Bool
is_after_mark [] = false
is_after_mark (c ∷ cs) = is_mark c || (not (is_letter c) && is_after_mark cs)

-- A place in a text: whether a letter there begins a word; whether it begins the first word;
-- whether a mark stands before it; and the text from there on.
pub record Place : Type 0 where
  pub begins_word : Bool
  pub begins_text : Bool
  pub follows_mark : Bool
  pub ahead : List ℕ

-- the place between what stands before it and the text from there on
abbrev pub place_at : List ℕ → List ℕ → Place
place_at before ahead = record {
  begins_word = is_word_start before;
  begins_text = is_text_start before;
  follows_mark = is_after_mark before;
  ahead = ahead;
}
