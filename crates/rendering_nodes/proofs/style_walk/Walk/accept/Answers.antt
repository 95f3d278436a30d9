use Rattle.std.proofs.Common.{◌≡◌, true, sym, ap, ◌∙◌, if◌then◌else◌}
use Rattle.rendering_leaves.specs.NodeSettings.{noted}
use Rattle.rendering_leaves.specs.Views.{setting_view}
use Rattle.rendering_nodes.specs.Content.{accepted}
use Rattle.rendering_nodes.specs.Views.{walk_context}
use Rattle.rendering_page.specs.Pages.{prints}
use Rattle.rendering_nodes.proofs.style_walk.Walk.accept.Goals as goal

pub returns-clause-state : goal.returns-clause-state
returns-clause-state c = λ a.
    let h = c.has_printed_in.ensures in
    let q = c.if-not-has_printed_in.false in
    let p : prints 0 c.args.done.page.tokens ≡ true = cc in
    c.replace-before.ensures.after ∙ (c.in_ok-done.ensures a
    ∙ sym (ap (λ b. if b then accepted (walk_context a c.args.self.now) (setting_view c.args.setting.now) c.args.done else noted c.args.done.met_disambiguate c.args.state.now) p))
