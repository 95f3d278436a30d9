use Rattle.std.specs.Option.{option_map}
use Rattle.rendering_context.specs.Views.{cite_properties_view}
use Rattle.rendering_locale.specs.CodeViews.{borrowed_code_view}
use Rattle.rendering.specs.Views.{style_context_view, rendering_view}
use Rattle.rendering.proofs.AlikeGiven.{cite_for_alike}
use Rattle.rendering.proofs.style_context.StyleContext.citation.Goals as goal

pub returns-clause-alike : goal.returns-clause-alike
returns-clause-alike g c =
    cite_for_alike (style_context_view c.args.self.now) (g.E.EntryLike.answers c.args.entry.now) (cite_properties_view c.args.properties.now) (option_map borrowed_code_view c.args.term_locale)
    rendering_view c.args.purpose c.args.verdict c.cite.result c.cite.ensures
