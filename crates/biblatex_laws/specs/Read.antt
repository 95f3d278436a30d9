-- What is read of characters is made of characters.
use Rattle.std.specs.Prelude.{ℕ, List, Ok}
use Rattle.std.specs.List.{AllByRecursion}
use Rattle.biblatex_meaning.specs.Listed.{Listed}
use Rattle.biblatex_meaning.specs.Resolved.{TextMeans}
use Rattle.biblatex_writing.specs.Texts.{IsText}
use Rattle.biblatex_laws.specs.Raw.{AreCharacters}

-- Entries that characters mean are made of characters.
abbrev pub EntriesReadAreText : Type 0
EntriesReadAreText = (cs : List ℕ) (file : Listed) → AreCharacters cs → TextMeans cs (Ok file) → AllByRecursion IsText file.entries
