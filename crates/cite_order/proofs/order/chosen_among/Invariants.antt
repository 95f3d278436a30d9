use Rattle.std.proofs.Common.{◌≡◌, map, take}
use Rattle.literature.specs.Views.{selector_view}
use Rattle.cite_requests.specs.Sections.{chosen}
use Rattle.cite_requests.specs.Views.{lent_works_view}
use Rattle.cite_order.proofs.order.chosen_among.Given as goal

abbrev pub invariant-loop-selector : goal.invariant-loop-selector
invariant-loop-selector l = lent_works_view l.found.items ≡ chosen (map selector_view (take l.selector-index l.selectors)) (lent_works_view l.entries)
