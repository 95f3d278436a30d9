use Rattle.std.proofs.Common.{drop}
use Rattle.std.specs.Fmt.{WritesInCalls}
use Rattle.std.specs.List.{AllByRecursion, flat_map}
use Rattle.biblatex_entries.specs.Entries.{sources_view}
use Rattle.biblatex_writing.specs.Texts.{IsText}
use Rattle.biblatex_writing.specs.Written.{written_file}
use Rattle.biblatex_writing.proofs.EntriesWritten.{after_line}
use Rattle.biblatex_writing.proofs.entries.push_entries.Given as goal

abbrev pub invariant-loop-entry : goal.invariant-loop-entry
invariant-loop-entry g l =
    ((u : g.row.T.Denot) → WritesInCalls g.T.Target.takes l.target (flat_map after_line (sources_view (drop l.entry-index l.others))) u
    → WritesInCalls g.T.Target.takes l.fn.target (written_file (sources_view l.entries)) u)
    × (AllByRecursion IsText (sources_view (drop l.entry-index l.others)) → AllByRecursion IsText (sources_view l.entries))
