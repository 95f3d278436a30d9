use Rattle.std.proofs.Common.{sym, ap, ◌∙◌}
use Rattle.std.proofs.lemmas.Result.{on_ok_weaker}
use Rattle.rendering_page.specs.Pages.{Page, before_mark, before_prefix, ended_as}
use Rattle.rendering_page.specs.Views.{frame_view, quotes_view}
use Rattle.rendering_page.proofs.PagesAppending.{ended_by, undone}
use Rattle.rendering_page.proofs.page.Page.end.Goals as goal

pub returns-then-not-finds_printed : goal.returns-then-not-finds_printed
returns-then-not-finds_printed c =
    on_ok_weaker c.undo.result
    (λ e.
    undone (quotes_view c.args.quotes.now) (frame_view c.args.frame.now) c.args.self.now c.undo.new.self (sym c.finds_printed.ensures.printed ∙ c.if-not-finds_printed.true)
    (e ∙ ap (λ (p : Page). record p { tokens = before_prefix (before_mark 0 p.tokens) }) c.finds_printed.ensures.page))
    c.undo.ensures

pub returns-then-not-has_text : goal.returns-then-not-has_text
returns-then-not-has_text c =
    let quotes = quotes_view c.args.quotes.now in
    let f = frame_view c.args.frame.now in
    on_ok_weaker c.end_without_suffix.result
    (λ e.
    ended_by quotes f c.is_element-is_part.result c.args.self.now c.end_without_suffix.new.self c.is_element-is_part.ensures (sym c.finds_printed.ensures.printed ∙ c.if-not-finds_printed.false)
    (e ∙ ap (ended_as quotes f.manner f.suffix c.is_element-is_part.result) c.finds_printed.ensures.page))
    (c.end_without_suffix.ensures quotes f.manner f.suffix (sym c.has_text.ensures ∙ c.if-not-has_text.true))

pub returns : goal.returns
returns c =
    let quotes = quotes_view c.args.quotes.now in
    let f = frame_view c.args.frame.now in
    on_ok_weaker c.end_as.result
    (λ e.
    ended_by quotes f c.is_element-is_part.result c.args.self.now c.end_as.new.self c.is_element-is_part.ensures (sym c.finds_printed.ensures.printed ∙ c.if-not-finds_printed.false)
    (e ∙ ap (ended_as quotes f.manner f.suffix c.is_element-is_part.result) c.finds_printed.ensures.page))
    c.end_as.ensures
