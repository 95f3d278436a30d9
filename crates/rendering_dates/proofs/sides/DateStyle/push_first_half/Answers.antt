use Rattle.std.proofs.Common.{ℕ, List, [], true, map, ap, ◌∙◌}
use Rattle.std.specs.Prelude.{if◌then◌else◌}
use Rattle.std.specs.Str.{chars}
use Rattle.std.specs.List.{flat_map}
use Rattle.laws.specs.Text.{spelled}
use Rattle.rendering_locale.specs.Locales.{DatePart}
use Rattle.rendering_locale.specs.Views.{part_view}
use Rattle.rendering_page.specs.Pieces.{append_pieces}
use Rattle.rendering_page.specs.Views.{manner_view, quotes_view}
use Rattle.rendering_dates.specs.Dates.{is_within, joined_with, part_pieces}
use Rattle.rendering_dates.specs.Sides.{first_parts, share_year}
use Rattle.rendering_dates.specs.Views.{changed_by, delimiter_by, printed_view, shape_view}
use Rattle.rendering_dates.proofs.PartsNext.{last_part}
use Rattle.rendering_dates.proofs.sides.DateStyle.push_first_half.Goals as goal

pub returns-in_default : goal.returns-in_default
returns-in_default c =
    let s = c.args.self.now in
    let first = c.args.first.now in
    let pieces = part_pieces s.locales.now (manner_view s.manner) (if share_year first c.args.last.now then chars c.args.year_suffix.now else []) first in
    ap (λ (ps : List DatePart). append_pieces (quotes_view s.quotes.now) (joined_with (delimiter_by s) (flat_map pieces ps)) c.args.page.now) c.in_default.ensures

pub returns : goal.returns
returns c =
    let s = c.args.self.now in
    let first = c.args.first.now in
    let within = λ (p : DatePart). is_within s.shape.cut p.form in
    let year_suffix = c.shared_suffix-year_suffix.result in
    let pieces = part_pieces s.locales.now (manner_view s.manner) (spelled year_suffix) first in
    let quotes = quotes_view s.quotes.now in
    let old = c.args.page.now in
    last_part within pieces quotes (delimiter_by s) true c.in_ok-is_first.is_first (changed_by s.shape (map part_view c.in-Some.before.now)) (printed_view c.in-Some.part) old _ _
    c.in_ok-is_first.ensures.page c.in_ok-is_first.ensures.first c.in_ok-push_next.ensures.page
    ∙ (ap (λ (ps : List DatePart). append_pieces quotes (joined_with (delimiter_by s) (flat_map pieces ps)) old) c.in-Some.ensures
    ∙ ap (λ (t : List ℕ). append_pieces quotes (joined_with (delimiter_by s)
    (flat_map (part_pieces s.locales.now (manner_view s.manner) t first) (first_parts first c.args.last.now (shape_view s.shape).parts))) old) c.shared_suffix-year_suffix.ensures)
