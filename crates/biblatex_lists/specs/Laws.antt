-- What is written is read back.
use Rattle.std.specs.Prelude.{◌≡◌, ℕ, true, List}
use Rattle.std.specs.List.{list_all}
use Rattle.biblatex_lists.specs.TextList.{texts_in}
use Rattle.laws.specs.Text.{is_filled}
use Rattle.biblatex_lists.specs.Writing.{written_texts}

-- the lists of texts that are read back are those of which no text is empty
abbrev pub IsReadBack : List (List ℕ) → Type 0
IsReadBack ts = list_all is_filled ts ≡ true

abbrev pub ReadsBack : Type 0
ReadsBack = (ts : List (List ℕ)) → IsReadBack ts → texts_in (written_texts ts) ≡ ts
