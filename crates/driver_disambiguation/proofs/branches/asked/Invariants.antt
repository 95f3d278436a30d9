use Rattle.std.proofs.Common.{◌≡◌, take, filter}
use Rattle.driver_names.specs.Views.{class_view}
use Rattle.driver_disambiguation.proofs.branches.asked.Given as goal

abbrev pub invariant-loop-cite : goal.invariant-loop-cite
invariant-loop-cite l = class_view l.asked.items ≡ filter (λ s. s.met_disambiguate) (class_view (take l.cite-index l.class))
