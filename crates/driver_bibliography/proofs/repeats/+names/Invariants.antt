use Rattle.std.proofs.Common.{◌≡◌, ◌++◌}
use Rattle.driver_bibliography.specs.Views.{borrowed_elements_view}
use Rattle.driver_bibliography.proofs.NamesListed.{singles_from}
use Rattle.driver_bibliography.proofs.repeats.+names.Given as goal

abbrev pub invariant-push_names-loop-part : goal.invariant-push_names-loop-part
invariant-push_names-loop-part l =
    borrowed_elements_view l.names.items ++ singles_from l.parts.0.items l.part-index ≡ borrowed_elements_view l.fn.names.items ++ singles_from l.parts.0.items 0
