use Rattle.std.proofs.Common.{◌≡◌, subst, OnOk}
use Rattle.rendering_leaves.specs.Views.{form_view}
use Rattle.rendering_style.specs.Styles.{Style}
use Rattle.rendering.specs.Purposes.{append_layout}
use Rattle.rendering.specs.Views.{context_in, style_of}
use Rattle.rendering.proofs.call.Call.push_citation.Goals as goal

pub returns : goal.returns
returns g c =
    let own = (style_of c.args.self.now).citation.name_options in
    subst (λ (s : Style). OnOk c.push_layout.result (c.push_layout.new.state ≡ append_layout (style_of c.args.self.now) (context_in (g.E.EntryLike.answers c.args.entry.now) c.args.self.now) s.citation.layout own (form_view c.args.form) c.args.state.now))
    c.parts.ensures.style (c.push_layout.ensures own c.args.self.now.resolved)
