-- All that entries hold: the key, the type and the fields, and the same of each parent.
use Rattle.std.specs.Prelude.{ℕ, List, [], ◌∷◌, string_bytes}
use Rattle.literature_entries.specs.Fields.{Fields}
use Rattle.literature_entries.specs.Views.{details_view}
use Rattle.literature_entries.specs.declared.entry.Entry.{Entry, fold-Entry}

mutual
  -- an entry with its key, what it says of itself, and its parents
  pub data EntryData : Type 0 where
    Holding : List ℕ → Fields → EntriesData → EntryData

  -- a list of entries
  pub data EntriesData : Type 0 where
    nothing : EntriesData
    before : EntryData → EntriesData → EntriesData

-- a list as an entry holds it
abbrev pub wholes : List EntryData → EntriesData
wholes [] = nothing
wholes (w ∷ ws) = before w (wholes ws)

-- all that an entry holds
abbrev pub entry_view : Entry → EntryData
entry_view = fold-Entry EntryData (λ e. Holding (string_bytes e.key) (details_view e.details) (wholes e.parents.items))
