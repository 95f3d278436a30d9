use Rattle.std.proofs.lemmas.Result.{on_ok_weaker}
use Rattle.rendering_context.specs.Views.{context_view}
use Rattle.rendering_leaves.specs.Views.{setting_view}
use Rattle.rendering_leaves.proofs.LeavesAppended.{label-appended}
use Rattle.rendering_style.specs.Views.{label_look_view}
use Rattle.rendering_leaves.proofs.label.push_label.Goals as goal

pub returns : goal.returns
returns g c =
    let a = g.E.EntryLike.answers c.args.entry.now in
    let ctx = context_view a c.args.context.now in
    let s = setting_view c.args.setting.now in
    let l = label_look_view c.args.node.now.label in
    on_ok_weaker c.append_label.result
    (label-appended ctx s c.args.state.now _ c.state.view_is _ c.args.node.now.variable l _ c.in_ok-is_plural.ensures)
    (c.append_label.ensures a)
