use Rattle.std.proofs.Common.{◌≡◌, ◌++◌, drop, map}
use Rattle.rendering_style.specs.Styles.{Citation}
use Rattle.driver_blocks.specs.Views.{arranged_view}
use Rattle.driver.specs.FinalPrints.{nameless}
use Rattle.driver.proofs.final_prints.without_names.Given as goal

abbrev pub invariant-loop-cite : goal.invariant-loop-cite
invariant-loop-cite l = (c : Citation) → map (arranged_view c) l.indices.items ++ map nameless (map (arranged_view c) (drop l.cite-index l.arranged)) ≡ map nameless (map (arranged_view c) l.arranged)
