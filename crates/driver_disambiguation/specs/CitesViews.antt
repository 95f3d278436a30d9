-- Printed cites without where they lie in memory.
use Rattle.std.specs.Prelude.{List, map}
use Rattle.driver_names.specs.Prints as prints
use Rattle.driver_names.specs.Views.{printed_view}
use Rattle.driver_disambiguation.specs.declared.printed_cites.PrintedCites.{PrintedCites}

-- all cites in their order
abbrev pub printed_cites_view : PrintedCites → List prints.Printed
printed_cites_view c = map printed_view c.cites.items
