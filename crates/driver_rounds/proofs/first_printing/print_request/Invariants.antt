use Rattle.std.proofs.Common.{◌≡◌, ◌+◌, ◌≤◌, ◌++◌, map, drop, length}
use Rattle.driver_names.specs.Views.{printed_view}
use Rattle.driver_requests.specs.Views.{context_of}
use Rattle.driver_rounds.specs.FirstPrints.{printed_undisambiguated}
use Rattle.driver_rounds.specs.Views.{numbered_cites_view, usage_of}
use Rattle.driver_rounds.proofs.first_printing.print_request.Given as goal

abbrev pub invariant-loop-index : goal.invariant-loop-index
invariant-loop-index g l = record {
  printed : map printed_view l.prints.printed.items ++ map printed_undisambiguated (numbered_cites_view g.T.EntryLike.answers (context_of l.cites.request.now) (drop l.index l.cites.request.now.items.items) (drop l.index l.cites.run.now)) ≡ map printed_view l.fn.prints.printed.items ++ map printed_undisambiguated (numbered_cites_view g.T.EntryLike.answers (context_of l.cites.request.now) l.cites.request.now.items.items l.cites.run.now);
  usages : l.prints.usages.items ++ map usage_of (numbered_cites_view g.T.EntryLike.answers (context_of l.cites.request.now) (drop l.index l.cites.request.now.items.items) (drop l.index l.cites.run.now)) ≡ l.fn.prints.usages.items ++ map usage_of (numbered_cites_view g.T.EntryLike.answers (context_of l.cites.request.now) l.cites.request.now.items.items l.cites.run.now);
  effort : l.effort + length (numbered_cites_view g.T.EntryLike.answers (context_of l.cites.request.now) (drop l.index l.cites.request.now.items.items) (drop l.index l.cites.run.now)) ≤ l.fn.effort + length (numbered_cites_view g.T.EntryLike.answers (context_of l.cites.request.now) l.cites.request.now.items.items l.cites.run.now);
}
