use Rattle.std.proofs.Common.{length, refl, sym, ◌∙◌}
use Rattle.rendering_page.specs.Views.{quotes_view}
use Rattle.rendering_people.specs.Views.{all_lent_answered_view}
use Rattle.rendering_names.specs.Views.{counted_view, names_parts_view, name_style_view}
use Rattle.rendering_names.proofs.RolesSteps.{left_out, printed_next}
use Rattle.rendering_names.proofs.style.NameStyle.push_next.Goals as goal

pub returns-then-leaves_out : goal.returns-then-leaves_out
returns-then-leaves_out c =
    let s = name_style_view c.args.self.now in
    let h = names_parts_view c.args.node.now in
    let p = counted_view c.args.count c.args.forms.now c.args.answered.now in
    left_out (quotes_view c.args.self.now.setting.quotes.now) s h (all_lent_answered_view c.args.before.now) (length c.args.before.now) p c.args.page.now
    (sym c.leaves_out.ensures ∙ c.if-leaves_out.true)

pub returns : goal.returns
returns c =
    let s = name_style_view c.args.self.now in
    let h = names_parts_view c.args.node.now in
    let p = counted_view c.args.count c.args.forms.now c.args.answered.now in
    let count = length c.args.before.now in
    printed_next (quotes_view c.args.self.now.setting.quotes.now) s h (all_lent_answered_view c.args.before.now) count count p c.args.page.now c.push_before_people.new.page c.push_variable.new.page c.push_variable.result
    (sym c.leaves_out.ensures ∙ c.if-leaves_out.false) refl c.in_ok-push_before_people.ensures c.push_variable.ensures
