use Rattle.std.proofs.Common.{Some, None, sym, ap, ◌∙◌}
use Rattle.std.specs.Prelude.{if◌then◌else◌}
use Rattle.rendering_page.specs.Views.{quotes_view}
use Rattle.rendering.specs.Views.{style_context_view}
use Rattle.rendering.specs.Words.{CallWords, words_of}
use Rattle.rendering.proofs.style_context.StyleContext.joining_quotes.Goals as goal

pub returns-then-is_published : goal.returns-then-is_published
returns-then-is_published c =
    let x = style_context_view c.args.self.now in
    ap (λ qs. Some (quotes_view qs)) c.as_slice.ensures.value
    ∙ ap (λ (w : CallWords). Some w.quotes) c.args.self.now.language
    ∙ ap (λ b. if b then Some (words_of x None).quotes else None) (sym c.if-is_published.true ∙ c.is_published.ensures)

pub returns-else-is_published : goal.returns-else-is_published
returns-else-is_published c =
    let x = style_context_view c.args.self.now in
    ap (λ b. if b then Some (words_of x None).quotes else None) (sym c.if-is_published.false ∙ c.is_published.ensures)
