-- A value is parted at each word `and` that stands between white space; parts have no white space at their ends.
use Rattle.std.specs.Prelude.{ℕ, zero, suc, Bool, false, ◌&&◌, List, [], ◌∷◌, ◌++◌, map, if◌then◌else◌}
use Rattle.laws.specs.Characters.{lower_a, lower_d, lower_n}
use Rattle.biblatex_lists.specs.declared.styled_char.StyledChar.{StyledChar}
use Rattle.biblatex_lists.specs.StyledChars.{is_gap, spells}

-- white space, the word `and` in any case, and white space again stand at the start
abbrev pub begins_and : List StyledChar → Bool
begins_and [] = false
begins_and (s ∷ []) = false
begins_and (s ∷ a ∷ []) = false
begins_and (s ∷ a ∷ n ∷ []) = false
begins_and (s ∷ a ∷ n ∷ d ∷ []) = false
begins_and (s ∷ a ∷ n ∷ d ∷ t ∷ ss) = is_gap s && spells lower_a a && spells lower_n n && spells lower_d d && is_gap t

-- characters put before the first part
abbrev pub before_first : List StyledChar → List (List StyledChar) → List (List StyledChar)
before_first ss [] = ss ∷ []
before_first ss (p ∷ ps) = (ss ++ p) ∷ ps

-- the text cut at each word `and` between white space, once so many characters have been passed over; the white space
-- after one word may stand before the next
abbrev pub cut_after : ℕ → List StyledChar → List (List StyledChar)
cut_after n [] = [] ∷ []
cut_after (suc n) (s ∷ ss) = cut_after n ss
cut_after zero (s ∷ ss) = if begins_and (s ∷ ss) then [] ∷ cut_after 3 ss else before_first (s ∷ []) (cut_after 0 ss)

-- the text cut at each word `and`
abbrev pub cut : List StyledChar → List (List StyledChar)
cut ss = cut_after 0 ss

-- a text without the white space at its start
abbrev pub without_first_gaps : List StyledChar → List StyledChar
without_first_gaps [] = []
without_first_gaps (s ∷ ss) = if is_gap s then without_first_gaps ss else s ∷ ss

-- a character before others; white space before nothing goes
abbrev pub before_others : StyledChar → List StyledChar → List StyledChar
before_others s [] = if is_gap s then [] else s ∷ []
before_others s (t ∷ ts) = s ∷ t ∷ ts

-- a text without the white space at its end
abbrev pub without_last_gaps : List StyledChar → List StyledChar
without_last_gaps [] = []
without_last_gaps (s ∷ ss) = before_others s (without_last_gaps ss)

-- a text without the white space at its ends
abbrev pub trimmed : List StyledChar → List StyledChar
trimmed ss = without_last_gaps (without_first_gaps ss)

-- the parts of a value; a part may be empty
abbrev pub parts : List StyledChar → List (List StyledChar)
parts ss = map trimmed (cut ss)
