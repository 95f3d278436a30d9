use Rattle.std.proofs.Common.{arith, length, map, None, refl, ap, ◌∙◌}
use Rattle.std.proofs.lemmas.List.{length-replicate}
use Rattle.std.specs.Option.{option_map}
use Rattle.rendering_context.specs.Views.{state_view}
use Rattle.driver_requests.specs.SuffixViews.{suffix_view}
use Rattle.driver_names.specs.Views.{given_view}
use Rattle.driver_disambiguation.proofs.SuffixesFound.{finds_first, finds_more, finds_all}
use Rattle.driver_disambiguation.proofs.given_suffixes.suffixes.Goals as goal

pub loop-one-init : goal.loop-one-init
loop-one-init c = (
  ap length c.in_ok-suffixes.ensures ∙ length-replicate (length c.args.states.now) None,
  finds_first (option_map suffix_view) state_view given_view c.args.states.now c.in_ok-suffixes.suffixes.items c.args.given.now refl c.in_ok-suffixes.ensures,
)

pub loop-one-preserved : goal.loop-one-preserved
loop-one-preserved c = (
  c.find.ensures.len ∙ c.loop-one.invariant.0,
  finds_more (option_map suffix_view) given_view (map state_view c.args.states.now) c.loop-one.suffixes.items c.find.new.suffixes.items c.args.given.now c.loop-one.one-index c.one-item.result
      c.loop-one-test.true c.one-item.is c.loop-one.invariant.1 c.find.ensures.found,
)

pub returns : goal.returns
returns c =
    finds_all (option_map suffix_view) given_view (map state_view c.args.states.now) c.loop-one.suffixes.items c.args.given.now c.loop-one.one-index (omega (arith, c.loop-one-test.false))
    c.loop-one.invariant.1
