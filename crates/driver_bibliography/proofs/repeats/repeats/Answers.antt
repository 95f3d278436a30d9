use Rattle.std.proofs.Common.{◌≡◌, [], ◌∷◌, map, ap, ◌∙◌}
use Rattle.std.proofs.lemmas.List.{map-append}
use Rattle.std.specs.Option.{option_map, option_or}
use Rattle.rendering_tree.specs.Views.{element_view}
use Rattle.driver_bibliography.specs.Substitution.{repeated}
use Rattle.driver_bibliography.specs.Views.{lent_element_view, printed_view, repeated_view}
use Rattle.driver_bibliography.proofs.RepeatsSteps.{names_seen, repeats_go_on, repeats_end}
use Rattle.driver_bibliography.proofs.repeats.repeats.Goals as goal

pub loop-item-preserved : goal.loop-item-preserved
loop-item-preserved c =
    let last = c.loop-item.last in
    let x = c.item-item.result in
    let r = c.in_ok-repeated.field-0 in
    let names : lent_element_view c.as_ref-names.result ≡ (printed_view c.item-item.result).names = names_seen c.as_ref-names.result ∙ ap (option_map (λ e. element_view e)) c.as_ref-names.ensures.value in
    repeats_go_on c.args.alone c.args.rule c.args.printed.now c.loop-item.item-index x (lent_element_view last) (lent_element_view c.latest-last.result) (map repeated_view c.loop-item.repeats.items) (map repeated_view c.push.new.self.items) _ (repeated_view r)
    c.loop-item-test.true c.item-item.is c.loop-item.invariant
    (c.in_ok-repeated.ensures ∙ ap (λ e. repeated c.args.alone c.args.rule (lent_element_view last) e) names)
    (c.latest-last.ensures ∙ ap (λ e. option_or e (lent_element_view last)) names)
    (ap (map repeated_view) c.in_ok-push.ensures.items ∙ map-append repeated_view c.loop-item.repeats.items (r ∷ []))

pub returns : goal.returns
returns c = repeats_end c.args.alone c.args.rule c.args.printed.now c.loop-item.item-index (lent_element_view c.loop-item.last) (map repeated_view c.loop-item.repeats.items) _ c.loop-item-test.false c.loop-item.invariant
