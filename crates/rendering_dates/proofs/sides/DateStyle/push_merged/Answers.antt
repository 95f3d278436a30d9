use Rattle.std.specs.Str.{chars}
use Rattle.std.proofs.lemmas.Result.{on_ok_weaker}
use Rattle.rendering_page.specs.Views.{quotes_view, manner_view}
use Rattle.rendering_dates.specs.Dates.{range_delimiter}
use Rattle.rendering_dates.specs.Views.{first_half_by, last_half_by, shape_view}
use Rattle.rendering_dates.proofs.DatesAppended.{append-sides}
use Rattle.rendering_dates.proofs.sides.DateStyle.push_merged.Goals as goal

pub returns : goal.returns
returns c =
    let style = c.args.self.now in
    let first = c.args.first.now in
    let last = c.args.last.now in
    let year_suffix = chars c.args.year_suffix.now in
    on_ok_weaker c.push_last_half.result
    (λ e. append-sides (quotes_view style.quotes.now) (manner_view style.manner) (first_half_by style year_suffix first last) (last_half_by style year_suffix first last)
    (range_delimiter first last (shape_view style.shape).parts) _ c.args.page.now _ _ _ c.range_delimiter-delimiter.ensures c.in_ok-push_first_half.ensures c.in_ok-push_text.ensures e)
    c.push_last_half.ensures
