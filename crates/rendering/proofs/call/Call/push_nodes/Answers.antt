use Rattle.std.proofs.Common.{◌≡◌, ◌∙◌, ap, map, subst, true, OnOk, Bool}
use Rattle.rendering_leaves.specs.Views.{form_view}
use Rattle.rendering_nodes.specs.Content.{contents}
use Rattle.rendering_style.specs.Opening.{opened_nodes}
use Rattle.rendering_style.specs.Views.{layout_view, node_view}
use Rattle.rendering.specs.Purposes.{setting_of}
use Rattle.rendering.specs.Views.{context_in, style_of}
use Rattle.rendering.proofs.call.Call.push_nodes.Goals as goal

pub returns : goal.returns
returns g c = λ own same.
    subst (λ s. OnOk c.push_nodes.result (c.push_nodes.new.state ≡ contents (context_in (g.E.EntryLike.answers c.args.entry.now) c.args.self.now) s true (opened_nodes (style_of c.args.self.now).macros (map node_view c.args.nodes.now)) c.args.state.now))
    (c.setting_of-setting.ensures (style_of c.args.self.now) own same
    ∙ ap (λ (b : Bool). setting_of (style_of c.args.self.now) b (layout_view c.args.layout.now) own (form_view c.args.form)) c.is_english-is_english.ensures)
    c.push_nodes.ensures
