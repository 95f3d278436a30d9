use Rattle.std.proofs.Common.{◌≡◌, map, take, Vec}
use Rattle.std.specs.Global.{Global}
use Rattle.std.specs.Borrow.{Bor}
use Rattle.std.specs.List.{flat_map}
use Rattle.driver_names.specs.FirstNames.{first_origin}
use Rattle.driver_names.specs.Names.{states_by_names}
use Rattle.driver_names.specs.Views.{class_view, given_states_view}
use Rattle.driver_names.specs.declared.printed.Printed.{Printed}
use Rattle.driver_disambiguation.proofs.round.names_given.Given as goal

abbrev pub invariant-loop-class : goal.invariant-loop-class
invariant-loop-class l =
    given_states_view l.given.items ≡ flat_map (states_by_names l.adds_names first_origin) (map (λ (v : Vec (Bor Printed) Global). class_view v.items) (take l.class-index l.classes))
