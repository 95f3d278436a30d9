use Rattle.std.proofs.Common.{◌≡◌, List, [], ◌∷◌, ◌++◌, filter, map, refl, sym, ap, ◌∙◌}
use Rattle.std.proofs.lemmas.List.{map_push, nil_from_length}
use Rattle.rendering_locale.specs.Locales as locales
use Rattle.rendering_locale.specs.Views.{part_view}
use Rattle.rendering_locale.specs.declared.locale.DatePart.{DatePart}
use Rattle.rendering_style.specs.Views.{part_change_view}
use Rattle.rendering_dates.specs.Changes.{changed_part}
use Rattle.rendering_dates.specs.Dates.{is_within}
use Rattle.rendering_dates.specs.Sides.{first_parts, is_apart, without_suffix}
use Rattle.rendering_dates.specs.Views.{changed_by, printed_by, printed_view}
use Rattle.rendering_dates.specs.declared.shape.DateShape.{DateShape}
use Rattle.rendering_dates.proofs.SidesFound.{ends, ends_before}
use Rattle.rendering_dates.proofs.shape.DateShape.last_apart.Goals as goal

-- parts and one after them, with the changes of a shape
changed_last : (s : DateShape) (ps : List DatePart) (p : DatePart)
    → changed_by s (map part_view (ps ++ p ∷ [])) ≡ changed_by s (map part_view ps) ++ changed_part (map part_change_view s.changes.now) (part_view p) ∷ []
changed_last s ps p =
    let change = changed_part (map part_change_view s.changes.now) in
    ap (map change) (map_push part_view ps p) ∙ map_push change (map part_view ps) (part_view p)

pub returns-then-prints_apart : goal.returns-then-prints_apart
returns-then-prints_apart c =
    let s = c.args.self.now in
    let first = c.args.first.now in
    let last = c.args.last.now in
    let within = λ (p : locales.DatePart). is_within s.cut p.form in
    let test = λ (p : locales.DatePart). is_apart first last p.form in
    let before = changed_by s (map part_view c.in-Some.before.now) in
    ap (λ (p : locales.DatePart). filter within (before ++ p ∷ [])) c.without_suffix.ensures
    ∙ (ends within test without_suffix (λ p. refl) (printed_view c.printed_part-printed.result) before (sym c.prints_apart.ensures ∙ c.if-prints_apart.true)
    ∙ (ap (λ (p : locales.DatePart). first_parts first last (filter within (before ++ p ∷ []))) c.printed_part-printed.ensures
    ∙ (ap (λ (ps : List locales.DatePart). first_parts first last (filter within ps)) (sym (changed_last s c.in-Some.before.now c.in-Some.part.now))
    ∙ (ap (λ (ps : List DatePart). first_parts first last (printed_by s (changed_by s (map part_view ps)))) (sym c.in-Some.ensures.cases.0)
    ∙ c.loop-part.invariant))))

pub loop-part-preserved : goal.loop-part-preserved
loop-part-preserved c =
    let s = c.args.self.now in
    let first = c.args.first.now in
    let last = c.args.last.now in
    let within = λ (p : locales.DatePart). is_within s.cut p.form in
    let test = λ (p : locales.DatePart). is_apart first last p.form in
    let before = changed_by s (map part_view c.in-Some.before.now) in
    ends_before within test without_suffix (λ p. refl) (printed_view c.printed_part-printed.result) before (sym c.prints_apart.ensures ∙ c.if-prints_apart.false)
    ∙ (ap (λ (p : locales.DatePart). first_parts first last (filter within (before ++ p ∷ []))) c.printed_part-printed.ensures
    ∙ (ap (λ (ps : List locales.DatePart). first_parts first last (filter within ps)) (sym (changed_last s c.in-Some.before.now c.in-Some.part.now))
    ∙ (ap (λ (ps : List DatePart). first_parts first last (printed_by s (changed_by s (map part_view ps)))) (sym c.in-Some.ensures.cases.0)
    ∙ c.loop-part.invariant)))

pub returns : goal.returns
returns c =
    let s = c.args.self.now in
    ap (λ (ps : List DatePart). first_parts c.args.first.now c.args.last.now (printed_by s (changed_by s (map part_view ps)))) (sym (nil_from_length c.loop-part.rest.now c.in_default.ensures.cases))
    ∙ c.loop-part.invariant
