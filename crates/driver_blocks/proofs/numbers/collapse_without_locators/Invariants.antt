use Rattle.std.proofs.Common.{◌≡◌, ◌++◌, true, map}
use Rattle.rendering_style.specs.Styles.{Citation}
use Rattle.driver_blocks.specs.Runs.{runs_of}
use Rattle.driver_blocks.specs.Collapsing.{is_next_number, runs_collapsed}
use Rattle.driver_blocks.specs.Views.{arranged_view}
use Rattle.driver_blocks.proofs.RunsSteps.{numbers_from}
use Rattle.driver_blocks.proofs.numbers.collapse_without_locators.Given as goal

abbrev pub invariant-loop-run : goal.invariant-loop-run
invariant-loop-run l =
    (c : Citation) → map (arranged_view c) l.all.items ++ numbers_from c l.is_after (runs_of (is_next_number true) (map (arranged_view c) l.run-iterator.rest.now)) ≡ runs_collapsed c (is_next_number true) (map (arranged_view c) l.cites)
