use Rattle.std.proofs.Common.{List, ◌∷◌, filter, map, refl, sym, ap, ◌∙◌}
use Rattle.std.proofs.lemmas.List.{nil_from_length}
use Rattle.rendering_locale.specs.Locales as locales
use Rattle.rendering_locale.specs.Views.{part_view}
use Rattle.rendering_locale.specs.declared.locale.DatePart.{DatePart}
use Rattle.rendering_dates.specs.Dates.{is_within}
use Rattle.rendering_dates.specs.Sides.{is_apart, last_parts, without_prefix}
use Rattle.rendering_dates.specs.Views.{changed_by, printed_by, printed_view}
use Rattle.rendering_dates.proofs.SidesFound.{begins, begins_after}
use Rattle.rendering_dates.proofs.shape.DateShape.first_apart.Goals as goal

pub returns-then-prints_apart : goal.returns-then-prints_apart
returns-then-prints_apart c =
    let s = c.args.self.now in
    let first = c.args.first.now in
    let last = c.args.last.now in
    let within = λ (p : locales.DatePart). is_within s.cut p.form in
    let test = λ (p : locales.DatePart). is_apart last first p.form in
    let after = changed_by s (map part_view c.in-Some.after.now) in
    ap (λ (p : locales.DatePart). filter within (p ∷ after)) c.without_prefix.ensures
    ∙ (begins within test without_prefix (λ p. refl) (printed_view c.printed_part-printed.result) after (sym c.prints_apart.ensures ∙ c.if-prints_apart.true)
    ∙ (ap (λ (p : locales.DatePart). last_parts first last (filter within (p ∷ after))) c.printed_part-printed.ensures
    ∙ (ap (λ (ps : List DatePart). last_parts first last (printed_by s (changed_by s (map part_view ps)))) (sym c.in-Some.ensures.cases.0)
    ∙ c.loop-part.invariant)))

pub loop-part-preserved : goal.loop-part-preserved
loop-part-preserved c =
    let s = c.args.self.now in
    let first = c.args.first.now in
    let last = c.args.last.now in
    let within = λ (p : locales.DatePart). is_within s.cut p.form in
    let test = λ (p : locales.DatePart). is_apart last first p.form in
    let after = changed_by s (map part_view c.in-Some.after.now) in
    begins_after within test without_prefix (λ p. refl) (printed_view c.printed_part-printed.result) after (sym c.prints_apart.ensures ∙ c.if-prints_apart.false)
    ∙ (ap (λ (p : locales.DatePart). last_parts first last (filter within (p ∷ after))) c.printed_part-printed.ensures
    ∙ (ap (λ (ps : List DatePart). last_parts first last (printed_by s (changed_by s (map part_view ps)))) (sym c.in-Some.ensures.cases.0)
    ∙ c.loop-part.invariant))

pub returns : goal.returns
returns c =
    let s = c.args.self.now in
    ap (λ (ps : List DatePart). last_parts c.args.first.now c.args.last.now (printed_by s (changed_by s (map part_view ps)))) (sym (nil_from_length c.loop-part.rest.now c.in_default.ensures.cases))
    ∙ c.loop-part.invariant
