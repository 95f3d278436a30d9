use Rattle.std.proofs.Common.{arith}
use Rattle.driver_names.specs.FirstNames.{disambiguated_at}
use Rattle.driver_names.specs.Namesakes.{all_people}
use Rattle.driver_names.proofs.FirstSteps.{fold_end, fold_step}
use Rattle.driver_names.proofs.people_disambiguated.disambiguate.Goals as goal

pub loop-index-preserved : goal.loop-index-preserved
loop-index-preserved c = λ ms says.
    fold_step (disambiguated_at c.args.rule (all_people ms)) c.args.people.now c.loop-index.index c.index-people-index.result _ _ _ c.loop-index-test.true c.index-people-index.is (c.disambiguate_at.ensures ms says) (c.loop-index.invariant ms says)

pub returns : goal.returns
returns c = λ ms says.
    fold_end (disambiguated_at c.args.rule (all_people ms)) c.args.people.now c.loop-index.index _ _ (omega (arith, c.loop-index-test.false)) (c.loop-index.invariant ms says)
