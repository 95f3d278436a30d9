use Rattle.std.proofs.Common.{arith, length, sym, ap, ◌∙◌}
use Rattle.std.specs.Prelude.{sum_by}
use Rattle.rendering_people.specs.Properties.{all_shown}
use Rattle.rendering_people.specs.declared.properties.PeopleCount.{PeopleCount}
use Rattle.rendering_people.proofs.CountsWhole.{all_shown-cut, shown-within}
use Rattle.rendering_people.proofs.properties.NameDisambiguationProperties.all_shown.Goals as goal

pub total_shown-requires : goal.total_shown-requires
total_shown-requires c =
    let f = c.self.inside in
    rw c.as_slice.ensures.value (omega (arith, shown-within f.counts.items c.self.invariant.shown, ap length c.as_slice-forms.ensures.value))

pub returns : goal.returns
returns c =
    let f = c.self.inside in
    c.total_shown.ensures ∙ ap (sum_by (λ (d : PeopleCount). d.shown)) c.as_slice.ensures.value ∙ sym (all_shown-cut f.counts.items f.forms.items) ∙ ap all_shown c.self.view_is
