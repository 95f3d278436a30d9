use Rattle.std.proofs.Common.{◌≡◌, ◌++◌, drop, map, option_map}
use Rattle.driver_blocks.specs.Views.{gathered_view}
use Rattle.driver_names.specs.Views.{printed_view}
use Rattle.driver_requests.specs.SuffixViews.{suffix_view}
use Rattle.driver.specs.FinalPrints.{all_gathered}
use Rattle.driver.proofs.final_prints.gathered_cites.Given as goal

abbrev pub invariant-loop-at : goal.invariant-loop-at
invariant-loop-at g l =
    map gathered_view l.gathered.items ++ all_gathered (map (option_map suffix_view) l.year_suffixes) l.at (drop l.at l.request.items.items) (drop l.at l.run) (map printed_view (drop l.at l.printed))
    ≡ all_gathered (map (option_map suffix_view) l.year_suffixes) 0 l.request.items.items l.run (map printed_view l.printed)
