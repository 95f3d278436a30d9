use Rattle.std.proofs.Common.{◌∙◌}
use Rattle.std.specs.Str.{bytes_eq}
use Rattle.rendering_page.specs.Views.{manner_view}
use Rattle.rendering_dates.specs.Views.{shape_view}
use Rattle.rendering_dates.proofs.DatesAppended.{append-alone}
use Rattle.rendering_dates.proofs.sides.DateStyle.prints_alike.Goals as goal

pub returns : goal.returns
returns c =
    let style = c.args.self.now in
    let alone = append-alone style.locales.now (manner_view style.manner) (shape_view style.shape) in
    let first = alone c.args.first.now _ _ c.new-first_page.ensures c.in_ok-push_side.ensures in
    let last = alone c.args.last.now _ _ c.new-last_page.ensures c.in_ok-push_side-2.ensures in
    c.has_text_of.ensures ∙ (λ i. bytes_eq (first i) (last i))
