use Rattle.std.proofs.Common.{◌&&◌, List, map, refl, sym, ap, ◌∙◌}
use Rattle.std.specs.Option.{option_and_then}
use Rattle.rendering_locale.specs.Locales as locales
use Rattle.rendering_locale.specs.Views.{part_view}
use Rattle.rendering_locale.specs.declared.locale.DatePart.{DatePart}
use Rattle.rendering_style.specs.Views.{part_change_view}
use Rattle.rendering_dates.specs.Changes.{changed_part}
use Rattle.rendering_dates.specs.Dates.{differs_first, is_within}
use Rattle.rendering_dates.specs.Views.{changed_by, printed_view}
use Rattle.rendering_dates.proofs.PartsFound.{find-filter, found_at, none_left, passed_at}
use Rattle.rendering_dates.proofs.shape.DateShape.own_delimiter.Goals as goal

pub returns-then-shows_first : goal.returns-then-shows_first
returns-then-shows_first c =
    let s = c.args.self.now in
    let within = λ (p : locales.DatePart). is_within s.cut p.form in
    let differs = λ (p : locales.DatePart). differs_first c.args.first.now c.args.last.now p.form in
    let view = λ (p : DatePart). changed_part (map part_change_view s.changes.now) (part_view p) in
    let views = λ (ps : List DatePart). changed_by s (map part_view ps) in
    ap (option_and_then (λ (p : locales.DatePart). p.range_delimiter))
    (found_at (λ (p : locales.DatePart). within p && differs p) view views (λ x xs. refl) _ c.loop-part.part-index c.part-item.result (printed_view c.printed_part-printed.result) _ c.loop-part-test.true
    c.part-item.is c.printed_part-printed.ensures (sym c.shows_first.ensures ∙ c.if-shows_first.true) c.loop-part.invariant
    ∙ sym (find-filter within differs (changed_by s (map part_view s.parts.now))))

pub loop-part-preserved : goal.loop-part-preserved
loop-part-preserved c =
    let s = c.args.self.now in
    let test = λ (p : locales.DatePart). is_within s.cut p.form && differs_first c.args.first.now c.args.last.now p.form in
    let view = λ (p : DatePart). changed_part (map part_change_view s.changes.now) (part_view p) in
    let views = λ (ps : List DatePart). changed_by s (map part_view ps) in
    passed_at test view views (λ x xs. refl) _ c.loop-part.part-index c.part-item.result (printed_view c.printed_part-printed.result) _ c.loop-part-test.true
    c.part-item.is c.printed_part-printed.ensures (sym c.shows_first.ensures ∙ c.if-shows_first.false) c.loop-part.invariant

pub returns : goal.returns
returns c =
    let s = c.args.self.now in
    let within = λ (p : locales.DatePart). is_within s.cut p.form in
    let differs = λ (p : locales.DatePart). differs_first c.args.first.now c.args.last.now p.form in
    let view = λ (p : DatePart). changed_part (map part_change_view s.changes.now) (part_view p) in
    let views = λ (ps : List DatePart). changed_by s (map part_view ps) in
    ap (option_and_then (λ (p : locales.DatePart). p.range_delimiter))
    (none_left (λ (p : locales.DatePart). within p && differs p) view views (λ x xs. refl) _ c.loop-part.part-index _ c.loop-part-test.false refl c.loop-part.invariant
    ∙ sym (find-filter within differs (changed_by s (map part_view s.parts.now))))
