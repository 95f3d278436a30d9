use Rattle.std.proofs.Common.{arith, refl}
use Rattle.std.specs.Option.{option_map}
use Rattle.rendering_context.specs.Views.{state_view}
use Rattle.driver_requests.specs.SuffixViews.{suffix_view}
use Rattle.driver_names.specs.Views.{given_view}
use Rattle.driver_disambiguation.proofs.SuffixesFound.{found_set}
use Rattle.driver_disambiguation.proofs.given_suffixes.find.Goals as goal

pub returns-then-entry-states-clause-found : goal.returns-then-entry-states-clause-found
returns-then-entry-states-clause-found c =
    found_set (option_map suffix_view) state_view c.args.states.now c.args.suffixes.now.items c.args.one.now.entry (given_view c.args.one.now) c.index.result.now c.first_of.result
    c.index-states-entry.result (option_map suffix_view c.suffix_if.result) refl (omega (arith, c.if-entry-states.true, c.requires)) (omega (arith, c.if-entry-states.true)) c.index.ensures
    c.index-states-entry.is c.first_of.ensures c.suffix_if.ensures
