use Rattle.std.proofs.Common.{◌≡◌, ◌++◌, map, drop}
use Rattle.rendering_style.specs.Styles.{Citation}
use Rattle.driver_blocks.specs.Views.{arranged_view, hidden}
use Rattle.driver_blocks.proofs.runs.push_hidden.Given as goal

abbrev pub invariant-loop-cite : goal.invariant-loop-cite
invariant-loop-cite l =
    (c : Citation) → map (arranged_view c) l.all.items ++ map hidden (map (arranged_view c) (drop l.cite-index l.cites)) ≡ map (arranged_view c) l.fn.all.items ++ map hidden (map (arranged_view c) l.cites)
