use Rattle.std.proofs.Common.{◌≡◌, ◌++◌, map}
use Rattle.rendering_style.specs.Styles.{Citation}
use Rattle.driver_blocks.specs.Collapsing.{suffixes_collapsed}
use Rattle.driver_blocks.specs.Views.{arranged_view}
use Rattle.driver_blocks.proofs.suffixes.push_suffixes.Given as goal

abbrev pub invariant-loop-run : goal.invariant-loop-run
invariant-loop-run l =
    (c : Citation) → map (arranged_view c) l.all.items ++ suffixes_collapsed (map (arranged_view c) l.run-iterator.rest.now) ≡ map (arranged_view c) l.fn.all.items ++ suffixes_collapsed (map (arranged_view c) l.cites)
