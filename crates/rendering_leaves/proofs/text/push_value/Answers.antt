use Rattle.std.proofs.Common.{true, false, sym, ◌∙◌}
use Rattle.std.proofs.lemmas.Result.{on_ok_weaker}
use Rattle.std.specs.Str.{chars}
use Rattle.rendering_context.specs.Views.{context_view}
use Rattle.rendering_leaves.specs.Views.{setting_view}
use Rattle.rendering_leaves.proofs.LeavesAppended.{value-appended}
use Rattle.rendering_style.specs.Views.{text_look_view}
use Rattle.rendering_leaves.proofs.text.push_value.Goals as goal

pub returns-then-is_printed_blank : goal.returns-then-is_printed_blank
returns-then-is_printed_blank c = λ a.
    on_ok_weaker c.append_blank.result
    (λ e.
    value-appended (context_view a c.args.context.now) (setting_view c.args.setting.now) c.args.state.now _ c.state.view_is _ true (chars c.args.value.now)
    (text_look_view c.args.look.now) (sym c.is_printed_blank.ensures ∙ c.if-is_printed_blank.true) e)
    c.append_blank.ensures

pub returns : goal.returns
returns c = λ a.
    on_ok_weaker c.append_text.result
    (λ e.
    value-appended (context_view a c.args.context.now) (setting_view c.args.setting.now) c.args.state.now _ c.state.view_is _ false (chars c.args.value.now)
    (text_look_view c.args.look.now) (sym c.is_printed_blank.ensures ∙ c.if-is_printed_blank.false) e)
    (c.append_text.ensures a)
