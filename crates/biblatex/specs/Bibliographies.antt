-- Entries in file order with their names, and what changes them.
use Rattle.std.specs.Prelude.{ℕ, List, [], ◌∷◌, length, remove, slice_set, Option, Some, None}
use Rattle.biblatex_entries.specs.Entries.{Source, sources_view}
use Rattle.biblatex_entries.specs.declared.entry.Entry.{Entry}
use Rattle.biblatex_writing.specs.Flat.{flat}
use Rattle.biblatex_meaning.specs.Listed.{bound, Listed, put_last}
use Rattle.biblatex.specs.declared.indices.NamedIndex.{NamedIndex}
use Rattle.biblatex.specs.Indices.{Names, meaning_in, names_in, AreWithin, without_index}

-- entries, and names
pub record Indexed : Type 0 where
  pub entries : List Source
  pub names : Names

-- what a bibliography says, whatever the order of its names
abbrev pub listed_view : Indexed → Listed
listed_view b = record { entries = b.entries; index = meaning_in b.names }

-- entries in memory and their names
abbrev pub indexed : List Entry → List NamedIndex → Indexed
indexed entries names = record { entries = sources_view entries; names = names_in names }

-- each name means the index of an entry that there is
abbrev pub IsWithin : Indexed → Type 0
IsWithin b = AreWithin (meaning_in b.names) (length b.entries)

-- an entry instead of the one that its key means, under that one's names; else last, under its key alone
abbrev pub inserted_at : Option ℕ → Source → Listed → Listed
inserted_at None e b = put_last (e.key ∷ []) e b
inserted_at (Some i) e b = record { entries = slice_set b.entries i e; index = b.index }

abbrev pub inserted : Source → Listed → Listed
inserted e b = inserted_at (b.index e.key) e b

-- a bibliography without the entry that a name means and without all names of that entry
abbrev pub removed_at : Option ℕ → Listed → Listed
removed_at None b = b
removed_at (Some i) b = record { entries = remove b.entries i; index = without_index i b.index }

abbrev pub removed : List ℕ → Listed → Listed
removed name b = removed_at (b.index name) b

-- a further name for the entry that a name means, if it means one
abbrev pub aliased_at : Option ℕ → List ℕ → Listed → Listed
aliased_at None alias b = b
aliased_at (Some i) alias b = record { entries = b.entries; index = bound (alias ∷ []) i b.index }

abbrev pub aliased : List ℕ → List ℕ → Listed → Listed
aliased name alias b = aliased_at (b.index name) alias b

-- each entry without `crossref`, under the same names
abbrev pub flattened : Indexed → Indexed
flattened b = record { entries = flat b.entries; names = b.names }
