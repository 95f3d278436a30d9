use Rattle.std.proofs.Common.{◌≡◌, map, replicate, ap, ◌∙◌}
use Rattle.rendering_people.specs.Counts.{cut}
use Rattle.rendering_names.specs.Counts.{own_count, people_count}
use Rattle.rendering_people.specs.Views.{all_lent_answered_view}
use Rattle.rendering_names.specs.Views.{resolved_options_view}
use Rattle.rendering_names.proofs.CountsOwn.{cut-own, whole-own}
use Rattle.rendering_names.proofs.own.properties_by.Goals as goal

pub new-requires : goal.new-requires
new-requires c =
    let people = all_lent_answered_view c.args.people.now in
    let counts : c.in_ok-counts.counts.items ≡ map (own_count (resolved_options_view c.args.options.now) c.args.is_first) people = c.in_ok-counts.ensures in
    let forms : c.in_ok-forms.forms.items ≡ replicate (people_count people) c.base_form.result = c.in_ok-forms.ensures in
    rw (counts, forms) (whole-own (resolved_options_view c.args.options.now) c.args.is_first c.base_form.result people)

pub returns : goal.returns
returns c =
    let people = all_lent_answered_view c.args.people.now in
    let counts : c.in_ok-counts.counts.items ≡ map (own_count (resolved_options_view c.args.options.now) c.args.is_first) people = c.in_ok-counts.ensures in
    let forms : c.in_ok-forms.forms.items ≡ replicate (people_count people) c.base_form.result = c.in_ok-forms.ensures in
    c.new.ensures
    ∙ (λ i. cut (counts i) ((forms ∙ ap (replicate (people_count people)) c.base_form.ensures) i))
    ∙ cut-own (resolved_options_view c.args.options.now) c.args.is_first people
