use Rattle.driver_names.specs.FirstNames.{disambiguated_state}
use Rattle.driver_names.specs.Namesakes.{all_people}
use Rattle.driver_names.specs.NamesViews.{member_view, members_view}
use Rattle.driver_names.proofs.FirstSteps.{flat_step}
use Rattle.driver_names.proofs.people_disambiguated.disambiguated_states.Goals as goal

pub loop-member-preserved : goal.loop-member-preserved
loop-member-preserved c =
    let ms = members_view c.args.members.now in
    record {
      counts = c.loop-member.invariant.counts;
      given = flat_step member_view (disambiguated_state c.args.rule (all_people ms)) c.args.members.now c.loop-member.member-index c.member-item.result _ _ c.loop-member-test.true c.member-item.is c.loop-member.invariant.given
          (c.in_ok-push_disambiguated.ensures ms c.loop-member.invariant.counts);
    }
