use Rattle.std.proofs.Common.{ap, ◌∙◌}
use Rattle.std.specs.Option.{option_map_or}
use Rattle.rendering_people.specs.Properties.{with_form}
use Rattle.driver_names.specs.FirstNames.{form_first}
use Rattle.driver_names.specs.Namesakes.{all_people}
use Rattle.driver_names.proofs.people_disambiguated.disambiguate_at.Goals as goal

pub returns-in-Some : goal.returns-in-Some
returns-in-Some c = λ ms says.
    let ps = c.args.names.now in
    ap (λ f. with_form c.args.index f ps) (c.form_first.ensures ms says)
    ∙ ap (λ own. option_map_or (λ f. with_form c.args.index (form_first c.args.rule (all_people ms) c.args.person.now f) ps) own ps) c.in-Some.ensures.value
