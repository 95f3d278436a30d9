use Rattle.std.proofs.Common.{◌≡◌, length, map, drop}
use Rattle.std.specs.Option.{option_map}
use Rattle.rendering_context.specs.Views.{state_view}
use Rattle.driver_requests.specs.SuffixViews.{suffix_view}
use Rattle.driver_names.specs.Views.{given_view}
use Rattle.driver_disambiguation.proofs.SuffixesFound.{Finds}
use Rattle.driver_disambiguation.proofs.given_suffixes.suffixes.Given as goal

abbrev pub invariant-loop-one : goal.invariant-loop-one
invariant-loop-one l =
    (length l.suffixes.items ≡ length l.states)
    × Finds (map state_view l.states) (map (option_map suffix_view) l.suffixes.items) (map given_view l.given) (map given_view (drop l.one-index l.given))
