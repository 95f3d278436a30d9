use Rattle.std.proofs.Common.{List, map, refl, ◌∙◌}
use Rattle.std.specs.Str.{chars}
use Rattle.rendering_locale.specs.Locales as locales
use Rattle.rendering_locale.specs.Views.{part_view}
use Rattle.rendering_locale.specs.declared.locale.DatePart.{DatePart}
use Rattle.rendering_page.specs.Views.{manner_view, quotes_view}
use Rattle.rendering_style.specs.Views.{part_change_view}
use Rattle.rendering_dates.specs.Changes.{changed_part}
use Rattle.rendering_dates.specs.Dates.{is_within, part_pieces}
use Rattle.rendering_dates.specs.Views.{changed_by, delimiter_by, printed_view}
use Rattle.rendering_dates.proofs.PartsNext.{first_at, part_at}
use Rattle.rendering_dates.proofs.sides.DateStyle.push_parts.Goals as goal

pub loop-part-preserved : goal.loop-part-preserved
loop-part-preserved c =
    let s = c.args.self.now in
    let within = λ (p : locales.DatePart). is_within s.shape.cut p.form in
    let pieces = part_pieces s.locales.now (manner_view s.manner) (chars c.args.year_suffix.now) c.args.date.now in
    let view = λ (p : DatePart). changed_part (map part_change_view s.shape.changes.now) (part_view p) in
    let views = λ (ps : List DatePart). changed_by s.shape (map part_view ps) in (
      part_at within pieces view views (λ x xs. refl) (quotes_view s.quotes.now) (delimiter_by s) c.loop-part.is_next_first c.in_ok-is_next_first.is_next_first c.args.parts.now c.loop-part.part-index
          c.part-item.result (printed_view c.printed_part-printed.result) c.loop-part.page c.push_next.new.page c.loop-part-test.true c.part-item.is c.printed_part-printed.ensures
          c.in_ok-is_next_first.ensures.page c.in_ok-is_next_first.ensures.first
          ∙ c.loop-part.invariant.0,
      first_at within pieces view views (λ x xs. refl) c.loop-part.is_next_first c.in_ok-is_next_first.is_next_first c.args.parts.now c.loop-part.part-index
          c.part-item.result (printed_view c.printed_part-printed.result) c.loop-part-test.true c.part-item.is c.printed_part-printed.ensures c.in_ok-is_next_first.ensures.first
          ∙ c.loop-part.invariant.1,
    )
