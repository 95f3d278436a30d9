use Rattle.std.proofs.Common.{◌≡◌, ◌++◌, map, drop}
use Rattle.std.specs.List.{enumerate_from}
use Rattle.laws.specs.Borrowed.{borrowed}
use Rattle.rendering.specs.Views.{style_context_view}
use Rattle.driver_order.specs.Order.{entry_keys, keyed_entries}
use Rattle.driver_order.specs.Views.{keyed_view}
use Rattle.driver_order.proofs.order.keyed_entries.Given as goal

abbrev pub invariant-loop-number : goal.invariant-loop-number
invariant-loop-number g l =
    map keyed_view l.keyed.items
    ++ map (λ e. (entry_keys (style_context_view l.keys.context.now) g.T.EntryLike.answers e, e.1)) (enumerate_from l.number (borrowed (drop l.number l.entries)))
    ≡ keyed_entries (style_context_view l.keys.context.now) g.T.EntryLike.answers (borrowed l.entries)
