-- What a bibliography holds after one of its entries was changed.
use Rattle.std.specs.Prelude.{ℕ, List, length, Option, Some, None, slice_set}
use Rattle.std.specs.List.{refill}
use Rattle.std.specs.Borrow.{LendsIf, MutBor, Fml, GName, Array, follows}
use Rattle.biblatex_entries.specs.contracts.entry.Entry as entries
use Rattle.biblatex_entries.specs.declared.entry.Entry.{Entry}
use Rattle.biblatex_entries.specs.Entries.{Source, source_view, sources_view}
use Rattle.biblatex.specs.Bibliographies.{Indexed}
use Rattle.biblatex.specs.contracts.bibliography.Bibliography.{the_row}

-- an entry stands instead of another, and names mean what they meant
abbrev pub with_entry_at : Option ℕ → Source → Indexed → Indexed
with_entry_at None e b = b
with_entry_at (Some i) e b = record { entries = slice_set b.entries i e; names = b.names }

-- the entry at an index is borrowed; where there is none, all stays as it was
abbrev pub LendsEntry : MutBor Indexed → Option ℕ → Option (MutBor Entry) → Fml
LendsEntry b index r = LendsIf the_row entries.the_row b r (λ e. with_entry_at index (source_view e) b.now) b.now

-- these entries stand at the indices of those that there are, as many as they are, and names mean what they meant
abbrev pub with_entries : List Source → Indexed → Indexed
with_entries es b = record { entries = refill (length b.entries) b.entries es; names = b.names }

-- all entries are borrowed, in their order, under one name
abbrev pub LendsEntries : MutBor Indexed → GName → Fml
LendsEntries b r = follows the_row (Array entries.the_row 0) b.ghost_name r (λ es. with_entries (sources_view es) b.now)
