use Rattle.std.proofs.Common.{◌≡◌, drop}
use Rattle.rendering_page.specs.Pages.{quote_at_end}
use Rattle.rendering_page.specs.Views.{quotes_view, pieces_view}
use Rattle.rendering_page.proofs.appending.quote_at_end.Given as goal

abbrev pub invariant-loop-quote : goal.invariant-loop-quote
invariant-loop-quote l = quote_at_end (quotes_view (drop l.quote-index l.quotes)) (pieces_view l.pieces) ≡ quote_at_end (quotes_view l.quotes) (pieces_view l.pieces)
