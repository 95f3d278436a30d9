-- How many cites there are at most.
use Rattle.std.proofs.Common.{◌<◌, ◌^◌, length, arith}
use Rattle.std.proofs.lemmas.List.{length-map}
use Rattle.driver_disambiguation.specs.CitesViews.{printed_cites_view}
use Rattle.driver_names.specs.Views.{printed_view}
use Rattle.driver_disambiguation.specs.declared.printed_cites.PrintedCites.{PrintedCites}

-- the cites fit into memory
pub cites_fit : (c : PrintedCites) → length (printed_cites_view c) < 2 ^ 63
cites_fit c =
    let same = length-map c.cites.items printed_view in omega (arith, same, c.cites.ok.0, c.cites.ok.1, c.cites.small)
