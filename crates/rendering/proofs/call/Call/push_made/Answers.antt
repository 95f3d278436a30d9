use Rattle.std.proofs.Common.{◌≡◌, map, subst, true, OnOk}
use Rattle.rendering_context.specs.Answering.{is_english}
use Rattle.rendering_leaves.specs.Views.{form_view}
use Rattle.rendering_nodes.specs.Content.{contents}
use Rattle.rendering_style.specs.Opening.{opened_nodes}
use Rattle.rendering_style.specs.Styles.{Style}
use Rattle.rendering_style.specs.Views.{node_view}
use Rattle.rendering.specs.Purposes.{setting_of}
use Rattle.rendering.specs.Views.{context_in, style_of}
use Rattle.rendering.proofs.call.Call.push_made.Goals as goal

pub returns : goal.returns
returns g c =
    let own = (style_of c.args.self.now).citation.name_options in
    let english = is_english (context_in (g.E.EntryLike.answers c.args.entry.now) c.args.self.now) in
    subst (λ ns. OnOk c.push_nodes.result (c.push_nodes.new.state ≡ contents (context_in (g.E.EntryLike.answers c.args.entry.now) c.args.self.now) (setting_of (style_of c.args.self.now) english (style_of c.args.self.now).citation.layout own (form_view c.args.form)) true (opened_nodes (style_of c.args.self.now).macros ns) c.args.state.now))
    c.nodes-nodes.ensures
    (subst (λ (s : Style). OnOk c.push_nodes.result (c.push_nodes.new.state ≡ contents (context_in (g.E.EntryLike.answers c.args.entry.now) c.args.self.now) (setting_of (style_of c.args.self.now) english s.citation.layout own (form_view c.args.form)) true (opened_nodes (style_of c.args.self.now).macros (map node_view c.nodes-nodes.result.now)) c.args.state.now))
    c.parts.ensures.style (c.push_nodes.ensures own c.args.self.now.resolved))
