use Rattle.std.proofs.Common.{◌≡◌, Bool, true, false, sym, ap, ◌∙◌}
use Rattle.std.proofs.lemmas.Result.{on_ok_weaker}
use Rattle.std.specs.Prelude.{if◌then◌else◌}
use Rattle.rendering_context.specs.Answering.{asked_for}
use Rattle.rendering_context.specs.Views.{context_view}
use Rattle.rendering_leaves.specs.Values.{suppressing}
use Rattle.rendering_leaves.specs.Views.{setting_view}
use Rattle.rendering_taxonomy.specs.Variables.{is_variable}
use Rattle.rendering_leaves.proofs.suppression.suppress_answered.Goals as goal

pub returns-then-not-is_variable : goal.returns-then-not-is_variable
returns-then-not-is_variable c = λ a.
    let st = c.args.state.now in
    let v = c.args.variable in
    let no : false ≡ is_variable v (asked_for (context_view a c.args.context.now) v) = sym c.if-not-is_variable.true ∙ c.is_variable.ensures ∙ ap (is_variable v) (c.asked_for.ensures a) in
    ap (λ (b : Bool). if b then suppressing (setting_view c.args.setting.now) v st else st) no

pub returns : goal.returns
returns c = λ a.
    let st = c.args.state.now in
    let v = c.args.variable in
    let yes : true ≡ is_variable v (asked_for (context_view a c.args.context.now) v) = sym c.if-not-is_variable.false ∙ c.is_variable.ensures ∙ ap (is_variable v) (c.asked_for.ensures a) in
    on_ok_weaker c.suppress_in_substitute.result
    (λ e. e ∙ ap (λ (b : Bool). if b then suppressing (setting_view c.args.setting.now) v st else st) yes)
    c.suppress_in_substitute.ensures
