use Rattle.std.proofs.Common.{◌≡◌, map, take}
use Rattle.driver_requests.specs.Views.{parts_of}
use Rattle.cite_uses.specs.Hidden.{hidden_parts}
use Rattle.cite_uses.proofs.entries.hidden_items.Given as goal

abbrev pub invariant-loop-entry : goal.invariant-loop-entry
invariant-loop-entry l = map parts_of l.items.items ≡ map (λ e. hidden_parts e.now) (take l.entry-index l.entries)
