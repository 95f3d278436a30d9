use Rattle.std.proofs.Common.{◌≡◌}
use Rattle.std.specs.Str.{chars}
use Rattle.rendering_page.specs.Pieces.{append_pieces}
use Rattle.rendering_page.specs.Views.{quotes_view}
use Rattle.rendering_dates.specs.Joined.{joined_from, still_first}
use Rattle.rendering_dates.specs.Views.{delimiter_by, listed_by}
use Rattle.rendering_dates.proofs.JoinedSteps.{append_rest, from_index}
use Rattle.rendering_dates.proofs.sides.DateStyle.push_parts.Given as goal

abbrev pub invariant-loop-part : goal.invariant-loop-part
invariant-loop-part l =
    (append_rest (quotes_view l.self.quotes.now) l.self (chars l.year_suffix) l.date l.parts l.part-index l.is_next_first l.page
    ≡ append_pieces (quotes_view l.self.quotes.now) (joined_from l.is_first (delimiter_by l.self) (listed_by l.self (chars l.year_suffix) l.date l.parts)) l.initial.page)
    × (still_first l.is_next_first (from_index l.self (chars l.year_suffix) l.date l.parts l.part-index) ≡ still_first l.is_first (listed_by l.self (chars l.year_suffix) l.date l.parts))
