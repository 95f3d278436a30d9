use Rattle.std.proofs.Common.{◌≡◌, sym, ap, ◌∙◌}
use Rattle.rendering_people.specs.Counts.{counts_of}
use Rattle.rendering_people.specs.Properties.{all_forms}
use Rattle.rendering_people.proofs.CountsWhole.{all_forms-cut, counts_of-cut}
use Rattle.rendering_people.proofs.properties.NameDisambiguationPropertiesPartialEq.eq.Goals as goal

pub returns : goal.returns
returns c =
    let f = c.self.inside in
    let g = c.other.inside in
    let counts : c.as_slice.result.now ≡ counts_of c.args.self.now = c.as_slice.ensures.value ∙ sym (counts_of-cut f.counts.items f.forms.items c.self.invariant.people) ∙ ap counts_of c.self.view_is in
    let other_counts : c.as_slice-2.result.now ≡ counts_of c.args.other.now = c.as_slice-2.ensures.value ∙ sym (counts_of-cut g.counts.items g.forms.items c.other.invariant.people) ∙ ap counts_of c.other.view_is in
    let forms : c.as_slice-3.result.now ≡ all_forms c.args.self.now = c.as_slice-3.ensures.value ∙ sym (all_forms-cut f.counts.items f.forms.items c.self.invariant.people) ∙ ap all_forms c.self.view_is in
    let other_forms : c.as_slice-4.result.now ≡ all_forms c.args.other.now = c.as_slice-4.ensures.value ∙ sym (all_forms-cut g.counts.items g.forms.items c.other.invariant.people) ∙ ap all_forms c.other.view_is in
    rw (← counts, ← other_counts, ← forms, ← other_forms) c.are_same.ensures
