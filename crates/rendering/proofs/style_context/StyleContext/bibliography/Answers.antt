use Rattle.std.proofs.Common.{sym, ap, ◌∙◌}
use Rattle.std.specs.Option.{option_map}
use Rattle.rendering_context.specs.Views.{cite_properties_view}
use Rattle.rendering_locale.specs.CodeViews.{borrowed_code_view}
use Rattle.rendering_style.specs.Styles.{Style}
use Rattle.rendering_style.specs.Views.{bibliography_layout_view}
use Rattle.rendering.specs.Views.{style_context_view, rendering_view}
use Rattle.rendering.proofs.AlikeGiven.{item_for_alike}
use Rattle.rendering.proofs.style_context.StyleContext.bibliography.Goals as goal

pub returns-in_ok-item-in-Some-clause-alike : goal.returns-in_ok-item-in-Some-clause-alike
returns-in_ok-item-in-Some-clause-alike g c =
    item_for_alike (style_context_view c.args.self.now) (g.E.EntryLike.answers c.args.entry.now) (cite_properties_view c.args.properties.now) (option_map borrowed_code_view c.args.term_locale)
    (bibliography_layout_view c.in-Some.bibliography) (rendering_view c.in_ok-item-in-Some.field-0)
    (ap (option_map bibliography_layout_view) (sym c.in-Some.is) ∙ ap (λ (s : Style). s.bibliography) c.parts.ensures.style) c.in_ok-item-in-Some.ensures
