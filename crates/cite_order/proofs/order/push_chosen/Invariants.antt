use Rattle.std.proofs.Common.{◌≡◌, ◌++◌, drop, filter}
use Rattle.literature.specs.Holding.{holds_at}
use Rattle.literature.specs.Views.{selector_view}
use Rattle.cite_requests.specs.Views.{lent_works_view}
use Rattle.cite_order.proofs.order.push_chosen.Given as goal

abbrev pub invariant-loop-entry : goal.invariant-loop-entry
invariant-loop-entry l =
    lent_works_view l.found.items ++ filter (holds_at (selector_view l.selector)) (lent_works_view (drop l.entry-index l.entries))
    ≡ lent_works_view l.initial.found.items ++ filter (holds_at (selector_view l.selector)) (lent_works_view l.entries)
