use Rattle.std.proofs.Common.{◌≡◌, [], ◌∷◌, ◌++◌, length, map, sym, ap, ◌∙◌, arith}
use Rattle.std.specs.Vec.Iter.{into_iter_items}
use Rattle.std.proofs.lemmas.List.{nil_from_length}
use Rattle.rendering_locale.specs.Views.{localized_date_view}
use Rattle.csl_locales.specs.Called.{elements_of}
use Rattle.csl_locales.specs.Locales.{localized_date}
use Rattle.csl_locales.proofs.Elements.{makes_on, makes_all}
use Rattle.csl_locales.proofs.reading.localized_dates.Goals as goal

pub loop-date-init : goal.loop-date-init
loop-date-init c =
    let e = c.into_iter-date-iterator.ensures.into_iter_gives in
    record {
      same = λ k. map localized_date_view (c.new-dates.ensures.items k) ++ map localized_date ((ap elements_of e.0 ∙ c.in_ok-date-items.ensures) k);
      long = e.1 ∙ (c.in_ok-date-items.date-items.ok.0 ∙ sym (ap length e.0));
    }

pub loop-date-preserved : goal.loop-date-preserved
loop-date-preserved c =
    let rest = into_iter_items c.next.new.self in
    let steps : into_iter_items c.loop-date.date-iterator ≡ c.in-Some.date ∷ rest = c.in-Some.ensures.steps.0 in
    record {
      same = makes_on localized_date_view localized_date c.loop-date.dates.items c.push.new.self.items c.in_ok-localized_date.field-0 c.in-Some.date rest (into_iter_items c.loop-date.date-iterator) _ steps
          c.loop-date.invariant.same c.in_ok-localized_date.ensures c.in_ok-push.ensures.items;
      long = omega (arith, c.loop-date.invariant.long, ap length steps, c.in-Some.ensures.steps.1);
    }

pub returns : goal.returns
returns c =
    let none : into_iter_items c.loop-date.date-iterator ≡ [] = nil_from_length _ (sym c.loop-date.invariant.long ∙ c.in-None.ensures.steps.0) in
    makes_all localized_date_view localized_date c.loop-date.dates.items (into_iter_items c.loop-date.date-iterator) _ none c.loop-date.invariant.same
