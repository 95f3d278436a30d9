-- A list of texts in a value: the parts that are not empty, as plain text.
use Rattle.std.specs.Prelude.{ℕ, Bool, true, false, List, [], ◌∷◌, map}
use Rattle.std.specs.List.{filter}
use Rattle.laws.specs.Text.{is_filled}
use Rattle.biblatex_content.specs.Styled.{Member}
use Rattle.biblatex_lists.specs.declared.styled_char.StyledChar.{StyledChar}
use Rattle.biblatex_lists.specs.StyledChars.{styled_chars, plain}
use Rattle.biblatex_lists.specs.Parts.{parts}

-- the texts of parts that are not empty
abbrev pub texts_of : List (List StyledChar) → List (List ℕ)
texts_of ps = map plain (filter is_filled ps)

-- the texts in a value
abbrev pub texts_in : List Member → List (List ℕ)
texts_in ms = texts_of (parts (styled_chars ms))
