use Rattle.std.proofs.Common.{arith, ap, ◌∙◌, ◌∷◌, []}
use Rattle.std.proofs.lemmas.List.{map-append}
use Rattle.driver_requests.specs.SuffixViews.{origin_view}
use Rattle.driver_names.specs.Views.{given_view, given_states_view}
use Rattle.driver_disambiguation.proofs.SuffixesSteps.{suffixes_step, given_all, refused_all}
use Rattle.driver_disambiguation.proofs.year_suffixes.suffixes_for.Goals as goal

pub loop-index-preserved : goal.loop-index-preserved
loop-index-preserved c =
    suffixes_step (origin_view c.args.origin) c.args.entries.now c.loop-index.index 0 _ _ c.loop-index-test.true c.loop-index.invariant
    (ap given_states_view c.in_ok-push.ensures.items ∙ map-append given_view c.loop-index.given.items (_ ∷ []))

pub returns-then-entries-gt256 : goal.returns-then-entries-gt256
returns-then-entries-gt256 c = refused_all (origin_view c.args.origin) c.args.entries.now (omega (arith, c.if-entries-gt256.true))

pub returns : goal.returns
returns c =
    given_all (origin_view c.args.origin) c.args.entries.now c.loop-index.index _ (omega (arith, c.if-entries-gt256.false)) (omega (arith, c.loop-index-test.false)) c.loop-index.invariant
