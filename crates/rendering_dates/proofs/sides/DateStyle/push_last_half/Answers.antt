use Rattle.std.proofs.Common.{List, true, map, ap, ◌∙◌}
use Rattle.std.specs.Str.{chars}
use Rattle.std.specs.List.{flat_map}
use Rattle.rendering_locale.specs.Locales.{DatePart}
use Rattle.rendering_locale.specs.Views.{part_view}
use Rattle.rendering_page.specs.Pieces.{append_pieces}
use Rattle.rendering_page.specs.Views.{manner_view, quotes_view}
use Rattle.rendering_dates.specs.Dates.{is_within, joined_with, part_pieces}
use Rattle.rendering_dates.specs.Views.{changed_by, delimiter_by, printed_view}
use Rattle.rendering_dates.proofs.PartsNext.{next_part}
use Rattle.rendering_dates.proofs.sides.DateStyle.push_last_half.Goals as goal

pub returns-in_default : goal.returns-in_default
returns-in_default c =
    let s = c.args.self.now in
    let pieces = part_pieces s.locales.now (manner_view s.manner) (chars c.args.year_suffix.now) c.args.last.now in
    ap (λ (ps : List DatePart). append_pieces (quotes_view s.quotes.now) (joined_with (delimiter_by s) (flat_map pieces ps)) c.args.page.now) c.in_default.ensures

pub returns : goal.returns
returns c =
    let s = c.args.self.now in
    let within = λ (p : DatePart). is_within s.shape.cut p.form in
    let pieces = part_pieces s.locales.now (manner_view s.manner) (chars c.args.year_suffix.now) c.args.last.now in
    let quotes = quotes_view s.quotes.now in
    let old = c.args.page.now in
    c.in_ok-push_parts.ensures.page
    ∙ (next_part within pieces quotes (delimiter_by s) true c.in_ok-is_first.is_first (printed_view c.in-Some.part) (changed_by s.shape (map part_view c.in-Some.after.now)) old _
    c.in_ok-is_first.ensures.page c.in_ok-is_first.ensures.first
    ∙ ap (λ (ps : List DatePart). append_pieces quotes (joined_with (delimiter_by s) (flat_map pieces ps)) old) c.in-Some.ensures)
