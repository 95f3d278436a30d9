use Rattle.std.proofs.Common.{◌≡◌, [], ◌∷◌, ◌++◌, length, map, sym, ap, ◌∙◌, arith}
use Rattle.std.specs.Prelude.{flat_map}
use Rattle.std.specs.Vec.Iter.{into_iter_items}
use Rattle.std.proofs.lemmas.List.{nil_from_length}
use Rattle.csl_locales.specs.Called.{elements_of}
use Rattle.csl_features.specs.Features.{own_features}
use Rattle.csl_features.specs.Views.{feature_view}
use Rattle.csl_features.proofs.EachElement.{gathers_on, gathers_all}
use Rattle.csl_features.proofs.asking.features.Goals as goal

pub loop-element-init : goal.loop-element-init
loop-element-init c =
    let e = c.into_iter-element-iterator.ensures.into_iter_gives in
    record {
      same = λ k. map feature_view (c.new-found.ensures.items k) ++ flat_map own_features ((ap elements_of e.0 ∙ c.in_ok-element-items.ensures) k);
      long = e.1 ∙ (c.in_ok-element-items.element-items.ok.0 ∙ sym (ap length e.0));
    }

pub loop-element-preserved : goal.loop-element-preserved
loop-element-preserved c =
    let rest = into_iter_items c.next.new.self in
    let steps : into_iter_items c.loop-element.element-iterator ≡ c.in-Some.element ∷ rest = c.in-Some.ensures.steps.0 in
    record {
      same = gathers_on feature_view own_features c.loop-element.found.items c.push_own.new.found.items c.in-Some.element rest (into_iter_items c.loop-element.element-iterator) _ steps c.loop-element.invariant.same
          c.in_ok-push_own.ensures;
      long = omega (arith, c.loop-element.invariant.long, ap length steps, c.in-Some.ensures.steps.1);
    }

pub returns : goal.returns
returns c =
    let none : into_iter_items c.loop-element.element-iterator ≡ [] = nil_from_length _ (sym c.loop-element.invariant.long ∙ c.in-None.ensures.steps.0) in
    gathers_all feature_view own_features c.loop-element.found.items (into_iter_items c.loop-element.element-iterator) _ none c.loop-element.invariant.same
