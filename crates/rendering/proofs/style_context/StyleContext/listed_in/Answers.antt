use Rattle.std.specs.Prelude.{true}
use Rattle.laws.specs.Text.{characters}
use Rattle.rendering_context.specs.Views.{cite_properties_view}
use Rattle.rendering_style.specs.Views.{bibliography_layout_view}
use Rattle.rendering.specs.Purposes.{item_of}
use Rattle.rendering.specs.Views.{context_in, style_context_view, style_of}
use Rattle.rendering.specs.Words.{words_view}
use Rattle.rendering.proofs.CallsGiven.{given_call}
use Rattle.rendering.proofs.style_context.StyleContext.listed_in.Goals as goal

pub returns : goal.returns
returns g c =
    let call = c.call-call.result in
    given_call (style_context_view c.args.self.now) (g.E.EntryLike.answers c.args.entry.now) (cite_properties_view c.args.properties.now) true (words_view c.args.words.now) (characters c.args.year_suffix.now.0)
    (λ s k. item_of s k (bibliography_layout_view c.args.bibliography.now)) (style_of call) (λ a. context_in a call) c.item.result c.call-call.ensures.style c.call-call.ensures.context c.item.ensures
