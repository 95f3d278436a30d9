use Rattle.std.proofs.Common.{◌≡◌, ◌+◌, ◌≤◌, ◌++◌, map, drop, length}
use Rattle.driver_names.specs.Views.{printed_view}
use Rattle.driver_rounds.specs.FirstPrints.{flattened, printed_undisambiguated}
use Rattle.driver_rounds.specs.Views.{all_numbered_cites_view, usage_of}
use Rattle.driver_rounds.proofs.first_printing.first_prints.Given as goal

abbrev pub invariant-loop-index : goal.invariant-loop-index
invariant-loop-index g l = record {
  printed : map printed_view l.prints.printed.items ++ map printed_undisambiguated (flattened (all_numbered_cites_view g.T.EntryLike.answers (drop l.index l.cites.requests.now) (drop l.index l.cites.runs.now))) ≡ map printed_undisambiguated (flattened (all_numbered_cites_view g.T.EntryLike.answers l.cites.requests.now l.cites.runs.now));
  usages : l.prints.usages.items ++ map usage_of (flattened (all_numbered_cites_view g.T.EntryLike.answers (drop l.index l.cites.requests.now) (drop l.index l.cites.runs.now))) ≡ map usage_of (flattened (all_numbered_cites_view g.T.EntryLike.answers l.cites.requests.now l.cites.runs.now));
  effort : l.effort + length (flattened (all_numbered_cites_view g.T.EntryLike.answers (drop l.index l.cites.requests.now) (drop l.index l.cites.runs.now))) ≤ l.fn.effort + length (flattened (all_numbered_cites_view g.T.EntryLike.answers l.cites.requests.now l.cites.runs.now));
}
