use Rattle.std.proofs.Common.{map, sym, ap, ◌∙◌}
use Rattle.std.specs.Option.{option_map}
use Rattle.std.specs.List.{slice_get}
use Rattle.rendering_style.specs.Nodes.{nodes_of}
use Rattle.rendering_style.specs.Styles.{Macro}
use Rattle.rendering_style.specs.Views.{macro_view}
use Rattle.rendering_style.proofs.OpeningIndices.{named_at, named_nowhere}
use Rattle.rendering_style.proofs.style.Style.macro_named.Goals as goal

pub returns-in-Some : goal.returns-in-Some
returns-in-Some c =
    let s = c.args.self.now in
    c.nodes_at.ensures
    ∙ (ap (λ ms. option_map (λ (m : Macro). nodes_of m.nodes) (slice_get (map macro_view ms) c.in-Some.index.now)) c.deref.ensures.value
    ∙ named_at (map macro_view s.parts.macros.items) c.args.name.now c.in-Some.index.now (sym (s.indexed c.args.name.now) ∙ sym c.in-Some.ensures.value))

pub returns-in-None : goal.returns-in-None
returns-in-None c =
    let s = c.args.self.now in
    sym (named_nowhere (map macro_view s.parts.macros.items) c.args.name.now (sym (s.indexed c.args.name.now) ∙ sym c.in-None.ensures.value))
