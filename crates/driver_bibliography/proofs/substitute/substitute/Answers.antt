use Rattle.std.proofs.Common.{◌≡◌, length, sym, ap, ◌∙◌}
use Rattle.std.specs.Option.{unwrap_or}
use Rattle.std.specs.Str.{chars}
use Rattle.std.specs.Vec.{with_items}
use Rattle.std.proofs.lemmas.List.{with_items_is}
use Rattle.rendering_tree.specs.Views.{children_view, tree_view}
use Rattle.rendering_tree.proofs.ViewsLevels.{tree_rolled}
use Rattle.driver_bibliography.specs.Substitution.{changed}
use Rattle.driver_bibliography.specs.Views.{children_for, repeated_view}
use Rattle.driver_bibliography.proofs.ChangedSteps.{text_stands}
use Rattle.driver_bibliography.proofs.substitute.substitute.Goals as goal

pub returns-in_ok-change_names-in_default : goal.returns-in_ok-change_names-in_default
returns-in_ok-change_names-in_default c =
    let change = children_for (chars c.args.text.now) (repeated_view c.args.repeated) in
    let item = c.args.item.0 in
    let long : length c.change_names.new.parts ≡ item.len = c.change_names.auto.parts ∙ ap length c.deref_mut.ensures.value ∙ sym item.ok.0 in
    text_stands c.simplify_children-in_default.result (chars c.args.text.now) c.args.repeated (tree_view c.args.item) c.in_default.not-Nothing
    (tree_rolled (record { 0 = with_items item c.change_names.new.parts })
    ∙ ap children_view (with_items_is item c.change_names.new.parts long)
    ∙ c.in_ok-change_names-in_default.ensures.as_wanted
    ∙ ap (λ xs. unwrap_or (changed change (children_view xs)) (children_view xs)) c.deref_mut.ensures.value)
    c.simplify_children-in_default.ensures
