use Rattle.std.proofs.Common.{◌≡◌, Some, length, sym, ap, ◌∙◌}
use Rattle.std.specs.Option.{option_map}
use Rattle.std.proofs.lemmas.Result.{on_ok_weaker}
use Rattle.rendering_tree.specs.Tokens.{with_letters}
use Rattle.rendering_page.specs.Pages.{in_manner, quote_at_end}
use Rattle.rendering_page.specs.Tail.{remaining}
use Rattle.rendering_page.specs.Views.{words_view, quotes_view, pieces_view, manner_view}
use Rattle.rendering_page.proofs.PagesAppending.{follows_inside}
use Rattle.rendering_page.proofs.appending.append_after_quote.Goals as goal

pub returns-in_ok-put_before-in-Some : goal.returns-in_ok-put_before-in-Some
returns-in_ok-put_before-in-Some c = λ cs b r is.
    let m = manner_view c.args.manner in
    let quotes = quotes_view c.args.quotes.now in
    let ts = pieces_view c.args.pieces.now.items in
    let rest : words_view c.without_first.result ≡ cs = c.without_first.ensures c.args.first cs is in
    let found : Some c.in-Some.count ≡ option_map length (quote_at_end quotes ts) =
    sym c.in-Some.is ∙ c.quote_at_end.ensures ∙ ap (λ ps. option_map length (quote_at_end quotes (pieces_view ps))) c.deref.ensures.value in
    on_ok_weaker c.append.result
    (λ e. follows_inside m c.args.first cs (quote_at_end quotes ts) c.in-Some.count ts (pieces_view c.append.new.pieces.items) b r found
    (e ∙ (λ i. with_letters m.formatting (in_manner m (rest i)) (remaining (rest i) (c.in_ok-put_before-in-Some.ensures i)))))
    c.append.ensures
