use Rattle.std.proofs.Common.{◌≡◌, ◌++◌, map, drop}
use Rattle.std.specs.Option.{option_map}
use Rattle.rendering_style.specs.Styles.{Citation}
use Rattle.driver_requests.specs.SuffixViews.{suffix_view}
use Rattle.driver_blocks.specs.Collapsing.{later_cites}
use Rattle.driver_blocks.specs.Views.{arranged_view, gathered_view}
use Rattle.driver_blocks.proofs.years.push_later.Given as goal

abbrev pub invariant-loop-cite : goal.invariant-loop-cite
invariant-loop-cite l =
    (c : Citation)
    → map (arranged_view c) l.all.items ++ later_cites c l.repeats_none l.mode (option_map suffix_view l.last) (map gathered_view (drop l.cite-index l.cites))
    ≡ map (arranged_view c) l.fn.all.items ++ later_cites c l.repeats_none l.mode (option_map suffix_view l.fn.shown) (map gathered_view l.cites)
