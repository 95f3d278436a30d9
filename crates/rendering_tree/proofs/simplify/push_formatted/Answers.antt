use Rattle.std.proofs.Common.{◌≡◌, true, sym, ap, ◌∙◌}
use Rattle.std.specs.Str.{chars}
use Rattle.laws.specs.Text.{characters, is_filled}
use Rattle.rendering_tree.specs.Views.{child_view, children_view}
use Rattle.rendering_tree.proofs.SimplifySteps.{on_ok, put_last, puts_text}
use Rattle.rendering_tree.proofs.simplify.push_formatted.Goals as goal

pub returns-in-Some : goal.returns-in-Some
returns-in-Some c =
    let text = c.args.text in
    let filled : is_filled (characters text.text) ≡ true = ap (λ s. is_filled (chars s)) (sym c.as_str.ensures.value) ∙ sym c.has_text.ensures ∙ c.if-not-has_text.false in
    on_ok c.push_after.result
    (puts_text (children_view c.pop.new.self.items) (child_view c.in-Some.last) text.formatting (characters text.text) (children_view c.args.simple.now.items) (children_view c.push_after.new.simple.items) filled
    (put_last c.pop.new.self.items c.args.simple.now.items c.in-Some.last c.in-Some.ensures.items))
    c.push_after.ensures
