use Rattle.std.proofs.Common.{◌≡◌, drop}
use Rattle.std.specs.Str.{chars}
use Rattle.rendering_page.specs.Views.{quotes_view}
use Rattle.driver_citations.specs.Meeting.{close_quote}
use Rattle.driver_citations.proofs.meeting.close_quote.Given as goal

abbrev pub invariant-loop-quote : goal.invariant-loop-quote
invariant-loop-quote l = close_quote (quotes_view (drop l.quote-index l.quotes)) (chars l.text) ≡ close_quote (quotes_view l.quotes) (chars l.text)
