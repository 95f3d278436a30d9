use Rattle.std.proofs.Common.{◌≡◌, map, take}
use Rattle.driver_names.specs.Namesakes.{form_after}
use Rattle.driver_names.specs.NamesViews.{members_view}
use Rattle.driver_names.proofs.names_raised.forms_after.Given as goal

abbrev pub invariant-loop-at : goal.invariant-loop-at
invariant-loop-at l = l.forms.items ≡ map (form_after l.most (members_view l.members)) (members_view (take l.at l.members))
