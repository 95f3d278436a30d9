-- What a text does to the last text before it is appended. Texts are characters; a page has its last token first.
use Rattle.std.specs.Prelude.{ℕ, ◌-◌, Bool, true, false, not, ◌==◌, ◌&&◌, ◌||◌, List, [], ◌∷◌, length, drop, if◌then◌else◌}
use Rattle.std.specs.List.{list_any}
use Rattle.std.specs.Char.{is_whitespace}
use Rattle.std.specs.Char.Unicode.Alphabetic.{is_alphabetic}
use Rattle.std.specs.Str.{bytes_eq, drop_trailing_whitespace}
use Rattle.laws.specs.Characters.{exclamation_mark, close_parenthesis, comma, full_stop, semicolon, question_mark, close_bracket}
use Rattle.rendering_tree.specs.Tokens.{Token, last_text, without_letters}

-- a full stop, a comma, a semicolon, an exclamation mark, a question mark
abbrev pub is_punctuation : ℕ → Bool
is_punctuation c = c == full_stop || (c == comma || (c == semicolon || (c == exclamation_mark || c == question_mark)))

-- white space, a full stop, a comma, a closing bracket or parenthesis
abbrev pub is_close : ℕ → Bool
is_close c = is_whitespace c || (c == full_stop || (c == comma || (c == close_bracket || c == close_parenthesis)))

-- whether a text begins with one of these
abbrev pub begins_close : List ℕ → Bool
begins_close [] = false
begins_close (c ∷ cs) = is_close c

-- whether a text has that end; each has the empty one
abbrev pub ends_in : List ℕ → List ℕ → Bool
ends_in end cs = bytes_eq end (drop (length cs - length end) cs)

-- how many characters of white space end a text
abbrev pub trailing : List ℕ → ℕ
trailing cs = length cs - length (drop_trailing_whitespace cs)

-- the white space that ends the last text is removed before one of these
abbrev pub closed_up : List ℕ → List Token → List Token
closed_up next ts = if begins_close next then without_letters (trailing (last_text ts)) ts else ts

-- the page without this end of the last text, where the text ends so
abbrev pub without_end : List ℕ → List Token → List Token
without_end end ts = if ends_in end (last_text ts) then without_letters (length end) ts else ts

-- an end that a text without letters would repeat is removed; white space at that text's end does not count
abbrev pub unrepeated : List ℕ → List Token → List Token
unrepeated next ts = if list_any is_alphabetic next then ts else without_end (drop_trailing_whitespace next) ts

-- what remains of a page before the next text
abbrev pub remaining : List ℕ → List Token → List Token
remaining next ts = unrepeated next (closed_up next ts)

-- a text without its full stops, but for those after a full stop; whether one stands before it
abbrev pub stripped_after : Bool → List ℕ → List ℕ
stripped_after was_stop [] = []
stripped_after was_stop (c ∷ cs) = if c == full_stop && not was_stop then stripped_after true cs else c ∷ stripped_after (c == full_stop) cs

-- a text without its single full stops
abbrev pub stripped : List ℕ → List ℕ
stripped cs = stripped_after false cs
