use Rattle.std.proofs.Common.{◌≡◌, ◌++◌, map, drop, None}
use Rattle.driver_bibliography.specs.Views.{lent_element_view, printed_view, repeated_view, repeats_after}
use Rattle.driver_bibliography.proofs.repeats.repeats.Given as goal

abbrev pub invariant-loop-item : goal.invariant-loop-item
invariant-loop-item l =
    map repeated_view l.repeats.items ++ repeats_after l.alone l.rule (lent_element_view l.last) (map printed_view (drop l.item-index l.printed)) ≡ repeats_after l.alone l.rule None (map printed_view l.printed)
