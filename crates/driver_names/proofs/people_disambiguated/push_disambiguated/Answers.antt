use Rattle.std.proofs.lemmas.Result.{on_ok_weaker}
use Rattle.std.proofs.Common.{◌∙◌, ap}
use Rattle.driver_names.specs.FirstNames.{disambiguated_names}
use Rattle.driver_names.specs.Namesakes.{all_people}
use Rattle.driver_names.specs.NamesViews.{member_view}
use Rattle.driver_names.specs.Views.{given_states_view}
use Rattle.driver_requests.specs.SuffixViews.{origin_view}
use Rattle.driver_names.proofs.FirstSteps.{disambiguated_some}
use Rattle.driver_names.proofs.people_disambiguated.push_disambiguated.Goals as goal

pub returns-in_ok-names-in-Some : goal.returns-in_ok-names-in-Some
returns-in_ok-names-in-Some c = λ ms says.
    let m = member_view c.args.member.now in
    on_ok_weaker c.push_if_more.result
    (λ done. done ∙ disambiguated_some c.args.rule (all_people ms) m (given_states_view c.args.given.now.items) (origin_view c.first_origin.result) c.in-Some.own c.disambiguate.new.names c.in-Some.is c.first_origin.ensures
    (c.disambiguate.ensures ms says ∙ ap (λ people. disambiguated_names c.args.rule (all_people ms) people c.in_ok-names-in-Some.names) c.as_slice.ensures.value ∙ ap (disambiguated_names c.args.rule (all_people ms) m.people) c.in_ok-names-in-Some.ensures.cases))
    c.push_if_more.ensures
