use Rattle.std.proofs.Common.{true, Some, sym, ap, ◌∙◌}
use Rattle.std.proofs.lemmas.Result.{on_ok_weaker}
use Rattle.rendering_page.specs.Pages.{Frame, Page, before_mark, before_prefix, ended_as}
use Rattle.rendering_page.specs.Views.{frame_view, quotes_view}
use Rattle.rendering_page.proofs.PagesAppending.{ended_by, last_of_some, undone}
use Rattle.rendering_page.proofs.page.Page.end_element.Goals as goal

pub returns-then-not-finds_printed : goal.returns-then-not-finds_printed
returns-then-not-finds_printed c = λ m.
    on_ok_weaker c.undo.result
    (λ e.
    undone (quotes_view c.args.quotes.now) (record (frame_view c.args.frame.now) { meta = Some m }) c.args.self.now c.undo.new.self (sym c.finds_printed.ensures.printed ∙ c.if-not-finds_printed.true)
    (e ∙ ap (λ (p : Page). record p { tokens = before_prefix (before_mark 0 p.tokens) }) c.finds_printed.ensures.page))
    c.undo.ensures

pub returns-then-not-has_text : goal.returns-then-not-has_text
returns-then-not-has_text c = λ m.
    let quotes = quotes_view c.args.quotes.now in
    let f : Frame = record (frame_view c.args.frame.now) { meta = Some m } in
    on_ok_weaker c.end_without_suffix.result
    (λ e.
    ended_by quotes f true c.args.self.now c.end_without_suffix.new.self (last_of_some c.args.frame.now.display m) (sym c.finds_printed.ensures.printed ∙ c.if-not-finds_printed.false)
    (e ∙ ap (ended_as quotes f.manner f.suffix true) c.finds_printed.ensures.page))
    (c.end_without_suffix.ensures quotes f.manner f.suffix (sym c.has_text.ensures ∙ c.if-not-has_text.true))

pub returns : goal.returns
returns c = λ m.
    let quotes = quotes_view c.args.quotes.now in
    let f : Frame = record (frame_view c.args.frame.now) { meta = Some m } in
    on_ok_weaker c.end_as.result
    (λ e.
    ended_by quotes f true c.args.self.now c.end_as.new.self (last_of_some c.args.frame.now.display m) (sym c.finds_printed.ensures.printed ∙ c.if-not-finds_printed.false)
    (e ∙ ap (ended_as quotes f.manner f.suffix true) c.finds_printed.ensures.page))
    c.end_as.ensures
