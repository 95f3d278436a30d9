use Rattle.std.proofs.Common.{◌≡◌, map, ◌∙◌}
use Rattle.rendering_people.specs.Counts.{cut}
use Rattle.rendering_people.specs.Properties.{raised_to}
use Rattle.rendering_people.specs.Raised.{raised_count, raised_forms}
use Rattle.rendering_people.proofs.RaisedWhole.{cut-raised, whole-raised}
use Rattle.rendering_people.proofs.properties.NameDisambiguationProperties.raised_to.Goals as goal

pub invariant_of-result : goal.invariant_of-result
invariant_of-result c =
    let f = c.self.inside in
    let g = c.others.inside in
    let counts : c.in_ok-raised.raised.items ≡ map (raised_count g.counts.items) f.counts.items =
    c.in_ok-raised.ensures ∙ (λ i. map (raised_count (c.as_slice-other_counts.ensures.value i)) (c.as_slice-counts.ensures.value i)) in
    let forms : c.in_ok-run.run'.items ≡ raised_forms f.counts.items f.forms.items g.counts.items g.forms.items =
    c.in_ok-run.ensures
    ∙ (λ i. raised_forms (c.as_slice-counts.ensures.value i) (c.as_slice-forms.ensures.value i) (c.as_slice-other_counts.ensures.value i) (c.as_slice-other_forms.ensures.value i)) in
    rw (counts, forms) (whole-raised f.counts.items f.forms.items g.counts.items g.forms.items c.self.invariant)

pub returns : goal.returns
returns c =
    let f = c.self.inside in
    let g = c.others.inside in
    let counts : c.in_ok-raised.raised.items ≡ map (raised_count g.counts.items) f.counts.items =
    c.in_ok-raised.ensures ∙ (λ i. map (raised_count (c.as_slice-other_counts.ensures.value i)) (c.as_slice-counts.ensures.value i)) in
    let forms : c.in_ok-run.run'.items ≡ raised_forms f.counts.items f.forms.items g.counts.items g.forms.items =
    c.in_ok-run.ensures
    ∙ (λ i. raised_forms (c.as_slice-counts.ensures.value i) (c.as_slice-forms.ensures.value i) (c.as_slice-other_counts.ensures.value i) (c.as_slice-other_forms.ensures.value i)) in
    (λ i. cut (counts i) (forms i))
    ∙ cut-raised f.counts.items f.forms.items g.counts.items g.forms.items c.self.invariant.people c.others.invariant.people
    ∙ (λ i. raised_to (c.others.view_is i) (c.self.view_is i))
