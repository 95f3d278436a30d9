use Rattle.std.proofs.Common.{ℕ, List}
use Rattle.std.specs.Str.{chars}
use Rattle.std.proofs.lemmas.Result.{on_ok_weaker}
use Rattle.rendering_page.specs.Views.{quotes_view, manner_view}
use Rattle.rendering_dates.specs.Dates.{range_delimiter, side_pieces}
use Rattle.rendering_dates.specs.Views.{shape_view, side_by}
use Rattle.rendering_dates.proofs.DatesAppended.{append-whole}
use Rattle.rendering_dates.proofs.sides.DateStyle.push_whole.Goals as goal

pub returns : goal.returns
returns c =
    let style = c.args.self.now in
    let first = c.args.first.now in
    let last = c.args.last.now in
    let side = λ (year_suffix : List ℕ). side_pieces style.locales.now (manner_view style.manner) (shape_view style.shape) year_suffix first in
    on_ok_weaker c.push_side-2.result
    (λ e. append-whole (quotes_view style.quotes.now) (manner_view style.manner) side (side_by style (chars c.args.year_suffix.now) last) (range_delimiter first last (shape_view style.shape).parts) _
    c.args.page.now _ _ _ c.range_delimiter-delimiter.ensures c.in_ok-push_side.ensures c.in_ok-push_text.ensures e)
    c.push_side-2.ensures
