use Rattle.std.proofs.Common.{◌≡◌, drop, map, find}
use Rattle.literature_entries.specs.Views.{fields_view}
use Rattle.rendering_entries.specs.Works.{is_one_of}
use Rattle.rendering_entries.proofs.works.first_of.Given as goal

abbrev pub invariant-loop-entry : goal.invariant-loop-entry
invariant-loop-entry l = find (is_one_of l.entry_types) (map fields_view (drop l.entry-index l.entries)) ≡ find (is_one_of l.entry_types) (map fields_view l.entries)
