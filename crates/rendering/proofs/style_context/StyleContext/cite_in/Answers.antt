use Rattle.std.specs.Prelude.{false}
use Rattle.laws.specs.Text.{characters}
use Rattle.rendering_context.specs.Views.{cite_properties_view}
use Rattle.rendering.specs.Purposes.{rendered_for}
use Rattle.rendering.specs.Views.{context_in, style_context_view, style_of}
use Rattle.rendering.specs.Words.{words_view}
use Rattle.rendering.proofs.CallsGiven.{given_call}
use Rattle.rendering.proofs.style_context.StyleContext.cite_in.Goals as goal

pub returns : goal.returns
returns g c =
    let call = c.call-call.result in
    given_call (style_context_view c.args.self.now) (g.E.EntryLike.answers c.args.entry.now) (cite_properties_view c.args.properties.now) false (words_view c.args.words.now) (characters c.args.year_suffix.now.0)
    (λ s k. rendered_for s k c.args.verdict c.args.purpose) (style_of call) (λ a. context_in a call) c.rendered_for.result c.call-call.ensures.style c.call-call.ensures.context c.rendered_for.ensures
