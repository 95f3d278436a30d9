use Rattle.std.proofs.Common.{sym, ap, ◌∙◌, true}
use Rattle.std.specs.Option.{option_map}
use Rattle.laws.specs.Text.{characters}
use Rattle.rendering_context.specs.Views.{cite_properties_view}
use Rattle.rendering_locale.specs.CodeViews.{borrowed_code_view}
use Rattle.rendering_style.specs.Views.{bibliography_layout_view}
use Rattle.rendering.specs.Purposes.{item_of}
use Rattle.rendering.specs.Views.{style_context_view}
use Rattle.rendering.specs.Words.{words_of, words_view}
use Rattle.rendering.proofs.CallsGiven.{given_words}
use Rattle.rendering.proofs.style_context.StyleContext.listed.Goals as goal

pub returns-in-None : goal.returns-in-None
returns-in-None g c =
    let x = style_context_view c.args.self.now in
    given_words x (g.E.EntryLike.answers c.args.entry.now) (cite_properties_view c.args.properties.now) true (words_view c.args.self.now.own_words) (characters c.args.year_suffix.now.0)
    (λ k. item_of x.style k (bibliography_layout_view c.args.bibliography.now)) (option_map borrowed_code_view c.args.term_locale) c.listed_in.result
    (c.args.self.now.language ∙ ap (λ o. words_of x (option_map borrowed_code_view o)) (sym c.in-None.is))
    c.requires c.listed_in.ensures

pub returns-in_ok-words-in-Some : goal.returns-in_ok-words-in-Some
returns-in_ok-words-in-Some g c =
    let x = style_context_view c.args.self.now in
    given_words x (g.E.EntryLike.answers c.args.entry.now) (cite_properties_view c.args.properties.now) true (words_view c.in_ok-words-in-Some.words) (characters c.args.year_suffix.now.0)
    (λ k. item_of x.style k (bibliography_layout_view c.args.bibliography.now)) (option_map borrowed_code_view c.args.term_locale) c.listed_in-in-Some.result
    c.in_ok-words-in-Some.ensures c.requires c.listed_in-in-Some.ensures
