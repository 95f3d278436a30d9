use Rattle.std.proofs.Common.{List, ap, ◌∙◌}
use Rattle.std.proofs.lemmas.Result.{on_ok_weaker}
use Rattle.std.specs.Option.{option_map}
use Rattle.laws.specs.Text.{spelled}
use Rattle.rendering_context.specs.Answering.{text_answer_to}
use Rattle.rendering_context.specs.Views.{context_view}
use Rattle.rendering_leaves.specs.Quoted.{requoted}
use Rattle.rendering_leaves.specs.Views.{setting_view}
use Rattle.rendering_leaves.proofs.LeavesAppended.{variable-appended}
use Rattle.rendering_style.specs.Views.{text_look_view}
use Rattle.rendering_taxonomy.specs.declared.variable.Variable.{Variable}
use Rattle.rendering_leaves.proofs.text.push_variable.Goals as goal

pub returns : goal.returns
returns g c =
    let a = g.E.EntryLike.answers c.args.entry.now in
    let ctx = context_view a c.args.context.now in
    let s = setting_view c.args.setting.now in
    let look = text_look_view c.args.look.now in
    let v = c.args.variable in
    let form = c.args.form in
    let answer = c.in_ok-answer.ensures ∙ ap (λ (vs : List Variable). text_answer_to ctx vs form v) c.deref.ensures.value in
    let printed = c.in_ok-printed.ensures ∙ (λ i. requoted ctx (c.are_inner-inner.ensures i) (answer i)) in
    on_ok_weaker c.after_variable.result
    (variable-appended ctx s c.args.state.now _ c.state.view_is _ v form look _ _ (option_map spelled c.before_link-before.result) _ printed c.before_link-before.ensures c.in_ok-linked.ensures (c.in_ok-append_variable.ensures a))
    (c.after_variable.ensures a)
