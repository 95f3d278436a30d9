use Rattle.std.proofs.Common.{◌≡◌, [], ◌∷◌, ◌++◌, length, map, sym, ap, ◌∙◌, arith}
use Rattle.std.specs.List.{filter_map}
use Rattle.std.specs.Vec.Iter.{into_iter_items}
use Rattle.std.proofs.lemmas.List.{nil_from_length}
use Rattle.rendering_locale.specs.Views.{ending_view}
use Rattle.csl_locales.specs.Called.{elements_of}
use Rattle.csl_locales.specs.Endings.{ending}
use Rattle.csl_locales.proofs.Elements.{keeps_on, keeps_all}
use Rattle.csl_locales.proofs.endings.endings_in.Goals as goal

pub loop-term-init : goal.loop-term-init
loop-term-init c =
    let e = c.into_iter-term-iterator.ensures.into_iter_gives in
    record {
      same = λ k. map ending_view (c.new-endings.ensures.items k) ++ filter_map ending ((ap elements_of e.0 ∙ c.in_ok-term-items.ensures) k);
      long = e.1 ∙ (c.in_ok-term-items.term-items.ok.0 ∙ sym (ap length e.0));
    }

pub loop-term-preserved : goal.loop-term-preserved
loop-term-preserved c =
    let rest = into_iter_items c.next.new.self in
    let steps : into_iter_items c.loop-term.term-iterator ≡ c.in-Some.term ∷ rest = c.in-Some.ensures.steps.0 in
    record {
      same = keeps_on ending_view ending c.loop-term.endings.items c.push_ending.new.endings.items c.in-Some.term rest (into_iter_items c.loop-term.term-iterator) _ steps c.loop-term.invariant.same
          c.in_ok-push_ending.ensures;
      long = omega (arith, c.loop-term.invariant.long, ap length steps, c.in-Some.ensures.steps.1);
    }

pub returns : goal.returns
returns c =
    let none : into_iter_items c.loop-term.term-iterator ≡ [] = nil_from_length _ (sym c.loop-term.invariant.long ∙ c.in-None.ensures.steps.0) in
    keeps_all ending_view ending c.loop-term.endings.items (into_iter_items c.loop-term.term-iterator) _ none c.loop-term.invariant.same
