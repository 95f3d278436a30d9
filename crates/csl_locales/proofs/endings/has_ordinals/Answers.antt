use Rattle.std.proofs.Common.{◌≡◌, [], ◌∷◌, length, sym, ap, ◌∙◌, arith}
use Rattle.std.specs.List.{list_any}
use Rattle.std.specs.Vec.Iter.{into_iter_items}
use Rattle.std.proofs.lemmas.List.{nil_from_length}
use Rattle.csl_locales.specs.Called.{elements_of}
use Rattle.csl_locales.specs.Endings.{is_ordinal}
use Rattle.csl_locales.proofs.Elements.{any_here, any_later, any_none}
use Rattle.csl_locales.proofs.endings.has_ordinals.Goals as goal

pub loop-term-init : goal.loop-term-init
loop-term-init c =
    let e = c.into_iter-term-iterator.ensures.into_iter_gives in
    record {
      same = ap (list_any is_ordinal) (ap elements_of e.0 ∙ c.in_ok-term-items.ensures);
      long = e.1 ∙ (c.in_ok-term-items.term-items.ok.0 ∙ sym (ap length e.0));
    }

pub loop-term-preserved : goal.loop-term-preserved
loop-term-preserved c =
    let rest = into_iter_items c.next.new.self in
    let steps : into_iter_items c.loop-term.term-iterator ≡ c.in-Some.term ∷ rest = c.in-Some.ensures.steps.0 in
    record {
      same = any_later is_ordinal c.in-Some.term rest (into_iter_items c.loop-term.term-iterator) _ steps c.loop-term.invariant.same (sym c.is_ordinal.ensures ∙ c.if-is_ordinal.false);
      long = omega (arith, c.loop-term.invariant.long, ap length steps, c.in-Some.ensures.steps.1);
    }

pub returns-then-is_ordinal : goal.returns-then-is_ordinal
returns-then-is_ordinal c =
    any_here is_ordinal c.in-Some.term (into_iter_items c.next.new.self) (into_iter_items c.loop-term.term-iterator) _ c.in-Some.ensures.steps.0 c.loop-term.invariant.same
    (sym c.is_ordinal.ensures ∙ c.if-is_ordinal.true)

pub returns : goal.returns
returns c =
    let none : into_iter_items c.loop-term.term-iterator ≡ [] = nil_from_length _ (sym c.loop-term.invariant.long ∙ c.in-None.ensures.steps.0) in
    any_none is_ordinal (into_iter_items c.loop-term.term-iterator) _ none c.loop-term.invariant.same
