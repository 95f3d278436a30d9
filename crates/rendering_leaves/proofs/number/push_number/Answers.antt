use Rattle.std.proofs.Common.{List, ap, ◌∙◌}
use Rattle.std.proofs.lemmas.Result.{on_ok_weaker}
use Rattle.rendering_context.specs.Answering.{answer_to}
use Rattle.rendering_context.specs.Views.{context_view}
use Rattle.rendering_leaves.specs.Views.{setting_view}
use Rattle.rendering_leaves.proofs.LeavesAppended.{number-appended}
use Rattle.rendering_style.specs.Views.{number_node_view}
use Rattle.rendering_taxonomy.specs.declared.date.LongShortForm.TheVariants as lengths
use Rattle.rendering_taxonomy.specs.declared.variable.Variable.{Variable}
use Rattle.rendering_leaves.proofs.number.push_number.Goals as goal

pub returns : goal.returns
returns g c =
    let a = g.E.EntryLike.answers c.args.entry.now in
    let ctx = context_view a c.args.context.now in
    let s = setting_view c.args.setting.now in
    let n = number_node_view c.args.node.now in
    let answer = c.in_ok-answer.ensures ∙ ap (λ (vs : List Variable). answer_to ctx vs lengths.Long n.variable) c.deref.ensures.value in
    on_ok_weaker c.after_variable.result
    (number-appended ctx s c.args.state.now _ c.state.view_is _ n _ _ answer (c.in_ok-append_number.ensures a))
    (c.after_variable.ensures a)
