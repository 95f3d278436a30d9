-- When the works at pairs of indices in two files are alike.
use Rattle.std.specs.Prelude.{◌≡◌, ℕ, List, Option, Some, slice_get, option_and_then}
use Rattle.std.specs.Ordering.{nat_cmp, ordering_then}
use Rattle.std.specs.declared.cmp.Ordering.{Ordering}
use Rattle.literature_entries.specs.EntriesData.{EntryData}
use Rattle.literature.specs.Trees.{Tree}
use Rattle.rendering_nodes.specs.Named.{Named}
use Rattle.cite_requests.specs.Works.{Works, work_of}
use Rattle.cite_uses.specs.Alike.{AreAlikeWorks}

-- pairs by their first numbers, and then by their second ones
abbrev pub by_both : ℕ × ℕ → ℕ × ℕ → Ordering
by_both p q = ordering_then (nat_cmp p.0 q.0) (nat_cmp p.1 q.1)

-- the work that the entry at an index is
abbrev pub work_at : Works → ℕ → Option EntryData
work_at works i = option_and_then (work_of works.library) (slice_get works.file.entries i)

-- there is a work at an index that is alike to this one
abbrev pub IsAlikeAt : Named → List Tree → EntryData → Works → ℕ → Type 0
IsAlikeAt named selectors work w j = (other : EntryData) × (work_at w j ≡ Some other) × AreAlikeWorks named selectors work other

-- there are such works at a pair of indices
abbrev pub AreAlikeAt : Named → List Tree → Works → Works → ℕ × ℕ → Type 0
AreAlikeAt named selectors v w p = (work : EntryData) × (work_at v p.0 ≡ Some work) × IsAlikeAt named selectors work w p.1
