-- Files that say the same are alike.
use Rattle.std.proofs.Common.{List, [], ◌∷◌}
use Rattle.biblatex_entries.specs.Entries.{Source}
use Rattle.interop_values.proofs.WrittenValues.{values_alike}
use Rattle.interop.specs.Library.{IsAlike, AreAlike}
use Rattle.interop.specs.SameFiles.{SaysTheSameAs, SayTheSame}

entry_alike : (e f : Source) → SaysTheSameAs e f → IsAlike e f
entry_alike e f h = record { key = h.key; entry_type = h.entry_type; values = values_alike e.fields f.fields h.fields }

-- files that say the same are alike entry by entry
pub files_alike : (es fs : List Source) → SayTheSame es fs → AreAlike es fs
files_alike [] [] h = tt
files_alike [] (f ∷ fs) h = absurd h
files_alike (e ∷ es) [] h = absurd h
files_alike (e ∷ es) (f ∷ fs) h = (entry_alike e f h.0, files_alike es fs h.1)
