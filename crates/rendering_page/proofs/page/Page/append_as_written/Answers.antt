use Rattle.std.proofs.Common.{◌≡◌, ◌∷◌, sym, ap, ◌∙◌}
use Rattle.std.specs.Str.{chars}
use Rattle.std.proofs.lemmas.Result.{on_ok_weaker}
use Rattle.rendering_page.specs.Pages.{append_as_written}
use Rattle.rendering_page.specs.Views.{words_view, manner_view, quotes_view, pieces_view}
use Rattle.rendering_page.proofs.PagesAppending.{page, append_punctuation}
use Rattle.rendering_page.proofs.page.Page.append_as_written.Goals as goal

pub returns-then-is_punctuation : goal.returns-then-is_punctuation
returns-then-is_punctuation c =
    let cs = words_view c.args.words in
    let rest = chars c.in-Some.field-0-1.now in
    let quotes = quotes_view c.args.quotes.now in
    let old = page (pieces_view c.self.inside.pieces.items) c.self.inside.after_quote c.self.inside.rule in
    let is : cs ≡ c.in-Some.first ∷ rest = sym c.as_str.ensures ∙ c.in-Some.ensures.chars in
    on_ok_weaker c.append_after_quote.result
    (λ e.
    append_punctuation quotes (manner_view c.args.manner) cs rest c.in-Some.first old (pieces_view c.append_after_quote.new.pieces.items) is
    c.if-after_quote.true (sym c.is_punctuation.ensures ∙ c.if-is_punctuation.true) e
    ∙ ap (append_as_written quotes (manner_view c.args.manner) cs) c.self.view_is)
    (c.append_after_quote.ensures rest c.self.inside.after_quote c.self.inside.rule is)
