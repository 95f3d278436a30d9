-- Entries that are made where they are asked for.
use Rattle.std.specs.Prelude.{◌≡◌, ℕ, Bool, true, false, List, Option, Some, None}
use Rattle.biblatex_fields.specs.Fields.{value_named}
use Rattle.biblatex_entries.specs.Roles.{role_of}
use Rattle.biblatex_entries.specs.Entries.{Source}
use Rattle.biblatex_inherited_fields.specs.Table.{is_xdata}
use Rattle.biblatex_inheritance.specs.Solution.{NoneIsCircular}
use Rattle.biblatex_suppliers.specs.Seen.{IsSeen}
use Rattle.biblatex_suppliers.specs.declared.supplier.Supplies.{Supplies}
use Rattle.biblatex_meaning.specs.Listed.{references}
use Rattle.biblatex_meaning.specs.Resolved.{head, tables}
use Rattle.biblatex_meaning.proofs.Entries.{resolved_entries}
use Rattle.biblatex_suppliers.specs.Written.{written_view}
use Rattle.biblatex_suppliers.specs.declared.shared.Written.{Written}
use Rattle.biblatex.specs.Bibliographies.{Indexed, listed_view, IsWithin}
use Rattle.biblatex.specs.Indices.{names_in}
use Rattle.biblatex.specs.declared.indices.NamedIndex.{NamedIndex}

-- entries as they are written, with the fields beside them, and names
abbrev pub written_under : Written → List NamedIndex → Indexed
written_under w names = record { entries = written_view w; names = names_in names }

-- entries with their references resolved, under the same names
unfoldable pub resolved_of : Indexed → Indexed
resolved_of b = record { entries = resolved_entries b.entries (references (listed_view b)); names = b.names }

-- Each name means one of the entries, none of which reaches itself, and what is seen of each, by what it inherits, is what it resolves to.
pub record IsCatalog (b : Indexed) (ss : List Supplies) : Type 0 where
  pub within : IsWithin b
  pub acyclic : NoneIsCircular (references (listed_view b))
  pub seen : IsSeen b.entries (tables (resolved_of b).entries) ss

-- An entry has the key and the type of this one, and unless that is an xdata entry the same under these names.
abbrev pub IsEntryAs : (List ℕ → Bool) → Option Source → Source → Type 0
IsEntryAs named None d = ⊥
IsEntryAs named (Some e) d = (head d ≡ head e) × (is_xdata (role_of e.entry_type) ≡ false → (name : List ℕ) → named name ≡ true → value_named name d.fields ≡ value_named name e.fields)
