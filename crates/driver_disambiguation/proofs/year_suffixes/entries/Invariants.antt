use Rattle.std.proofs.Common.{◌≡◌, ℕ, map, take}
use Rattle.std.specs.Prelude.{nat_eq}
use Rattle.std.specs.BTreeSet.{contains}
use Rattle.std.specs.List.{list_any}
use Rattle.std.specs.Ordering.{nat_cmp}
use Rattle.driver_disambiguation.specs.Classes.{entries_of}
use Rattle.driver_names.specs.Views.{class_view}
use Rattle.driver_disambiguation.proofs.year_suffixes.entries.Given as goal

abbrev pub invariant-loop-cite : goal.invariant-loop-cite
invariant-loop-cite l =
    ((e : ℕ) → contains nat_cmp l.earlier e ≡ list_any (nat_eq e) (map (λ s. s.entry) (class_view (take l.cite-index l.class))))
    × (l.entries.items ≡ entries_of (class_view (take l.cite-index l.class)))
