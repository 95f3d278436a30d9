use Rattle.std.proofs.Common.{sym, ap, ◌∙◌}
use Rattle.rendering_people.specs.Properties.{all_forms}
use Rattle.rendering_people.proofs.CountsWhole.{all_forms-cut}
use Rattle.rendering_people.proofs.properties.NameDisambiguationProperties.forms.Goals as goal

pub returns : goal.returns
returns c =
    let f = c.self.inside in
    c.as_slice.ensures.value ∙ sym (all_forms-cut f.counts.items f.forms.items c.self.invariant.people) ∙ ap all_forms c.self.view_is
