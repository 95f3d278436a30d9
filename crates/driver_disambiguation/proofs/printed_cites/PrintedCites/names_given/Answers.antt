use Rattle.std.proofs.Common.{ℕ, List, subst₂, sym}
use Rattle.driver_disambiguation.specs.Numbered.{AreNumbered}
use Rattle.driver_names.specs.declared.printed.Printed.{Printed}
use Rattle.driver_disambiguation.proofs.printed_cites.PrintedCites.names_given.Goals as goal

pub classes-requires : goal.classes-requires
classes-requires c =
    subst₂ (λ (ns : List ℕ) (ss : List Printed). AreNumbered c.args.self.now.texts ns ss) (sym c.as_slice.ensures.value) (sym c.as_slice-cites.ensures.value) c.args.self.now.numbered
