-- What is written is read back.
use Rattle.std.specs.Prelude.{◌≡◌, ℕ, Bool, true, false, not, ◌&&◌, ◌||◌, List, [], ◌∷◌}
use Rattle.std.specs.Char.{is_ascii_uppercase, is_ascii_alphabetic}
use Rattle.std.specs.List.{list_all}
use Rattle.biblatex_lists.specs.declared.styled_char.StyledChar.{StyledChar}
use Rattle.biblatex_lists.specs.StyledChars.{of_style}
use Rattle.laws.specs.Text.{is_filled}
use Rattle.biblatex_lists.specs.Reading.{Named, is_named, people_in}
use Rattle.biblatex_lists.specs.Words.{is_small, words}
use Rattle.biblatex_lists.specs.PeopleWriting.{is_steady, written_people}

-- whether the last word is small
abbrev pub ends_small : List (List StyledChar) → Bool
ends_small [] = false
ends_small (w ∷ []) = is_small w
ends_small (w ∷ v ∷ ws) = ends_small (v ∷ ws)

-- words with one space between them, the last of them small
abbrev pub is_prefix : List ℕ → Bool
is_prefix cs = is_steady cs && ends_small (words (of_style true cs))

-- the people that are read back: with some part of the name, and without a prefix, or with such a one and a name after it
abbrev pub is_read_back : Named → Bool
is_read_back n = is_named n && (not (is_filled n.prefix) || (is_prefix n.prefix && is_filled n.name))

abbrev pub AreReadBack : List Named → Type 0
AreReadBack ns = list_all is_read_back ns ≡ true

abbrev pub PeopleReadBack : Type 0
PeopleReadBack = (ns : List Named) → AreReadBack ns → people_in (written_people ns) ≡ ns

-- a word of ASCII letters that begins with a capital
abbrev pub is_capitalised : List ℕ → Bool
is_capitalised [] = false
is_capitalised (c ∷ cs) = is_ascii_uppercase c && list_all is_ascii_alphabetic cs

-- a person without prefix and suffix, whose name and given name are such words
abbrev pub is_plain_person : Named → Bool
is_plain_person n = is_capitalised n.name && is_capitalised n.given_name && not (is_filled n.prefix) && not (is_filled n.suffix)

-- such people are among those that are read back
abbrev pub PlainPeopleAreReadBack : Type 0
PlainPeopleAreReadBack = (ns : List Named) → list_all is_plain_person ns ≡ true → AreReadBack ns
