-- Entries with their references resolved, for all entries and references.
use Rattle.std.specs.Prelude.{◌≡◌, ℕ, List, length, map, slice_get, IfSome}
use Rattle.biblatex_fields.specs.Fields.{AreInOrder}
use Rattle.biblatex_entries.specs.Entries.{Source}
use Rattle.biblatex_inheritance.specs.Solution.{Solves, IsOnly, NoneIsCircular}
use Rattle.biblatex_meaning.specs.Resolved.{head, tables}

-- Entries that resolve others: each has its index, its key and its type; the fields are the one solution of the equation of
-- inheritance, each entry's in the order of their names.
pub record AreResolved (read : List Source) (references : List (List ℕ)) (resolved : List Source) : Type 0 where
  pub heads : map head resolved ≡ map head read
  pub equation : Solves read references (tables resolved)
  pub only : IsOnly read references (tables resolved)
  pub ordered : (i : ℕ) → IfSome (slice_get resolved i) (λ e. AreInOrder e.fields)

-- entries of which none reaches itself can be resolved
abbrev pub EachAcyclicFileHasResolvedEntries : Type 0
EachAcyclicFileHasResolvedEntries =
    (read : List Source) (references : List (List ℕ)) → length references ≡ length read → NoneIsCircular references → (resolved : List Source) × AreResolved read references resolved
