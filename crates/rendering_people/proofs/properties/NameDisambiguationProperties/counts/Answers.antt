use Rattle.std.proofs.Common.{sym, ap, ◌∙◌}
use Rattle.rendering_people.specs.Counts.{cut}
use Rattle.rendering_people.specs.Properties.{all_forms}
use Rattle.rendering_people.proofs.CountsWhole.{all_forms-cut}
use Rattle.rendering_people.proofs.properties.NameDisambiguationProperties.counts.Goals as goal

pub returns : goal.returns
returns c =
    let f = c.self.inside in
    (λ i. cut (c.as_slice.ensures.value i) (all_forms (sym c.self.view_is i)))
    ∙ ap (cut f.counts.items) (all_forms-cut f.counts.items f.forms.items c.self.invariant.people)
    ∙ c.self.view_is
