use Rattle.std.proofs.Common.{◌≡◌, length, map, ap, ◌∙◌, None}
use Rattle.std.specs.Str.{chars}
use Rattle.driver_bibliography.specs.Views.{all_changed, printed_view, repeated_view, repeats_after}
use Rattle.driver_bibliography.proofs.FieldsParted.{as_many, made_as}
use Rattle.driver_bibliography.proofs.RepeatsSteps.{substituted_by_repeats}
use Rattle.driver_bibliography.proofs.fields.substitute_repeated.Goals as goal

pub substitute_each-requires : goal.substitute_each-requires
substitute_each-requires c =
    ap length c.deref-2.ensures.value
    ∙ as_many c.args.alone c.args.rule c.in_ok-repeats.repeats.items c.args.printed.items (c.in_ok-repeats.ensures ∙ ap (λ ts. repeats_after c.args.alone c.args.rule None (map printed_view ts)) c.deref.ensures.value)

pub returns : goal.returns
returns c =
    let known : map repeated_view c.deref-2.result.now ≡ repeats_after c.args.alone c.args.rule None (map printed_view c.args.printed.items) =
    ap (map repeated_view) c.deref-2.ensures.value ∙ c.in_ok-repeats.ensures ∙ ap (λ ts. repeats_after c.args.alone c.args.rule None (map printed_view ts)) c.deref.ensures.value in
    made_as c.substitute_each.result (all_changed (chars c.args.text.now) (map repeated_view c.deref-2.result.now) (map printed_view c.args.printed.items)) _
    (ap (λ qs. all_changed (chars c.args.text.now) qs (map printed_view c.args.printed.items)) known ∙ substituted_by_repeats c.args.alone c.args.rule (chars c.args.text.now) None (map printed_view c.args.printed.items))
    c.substitute_each.ensures
