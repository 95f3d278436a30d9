use Rattle.std.proofs.Common.{◌≡◌, [], ◌∷◌, length, sym, ap, ◌∙◌, arith}
use Rattle.std.proofs.lemmas.Result.{IfOk-weaker}
use Rattle.std.specs.List.{find}
use Rattle.std.specs.Option.{option_map_or}
use Rattle.std.specs.Vec.Iter.{into_iter_items}
use Rattle.std.proofs.lemmas.List.{nil_from_length}
use Rattle.csl_locales.specs.Called.{elements_of}
use Rattle.csl_locales.specs.Endings.{is_default, ending_text}
use Rattle.csl_locales.proofs.Elements.{find_here, find_later, find_none}
use Rattle.csl_locales.proofs.endings.default_in.Goals as goal

pub loop-term-init : goal.loop-term-init
loop-term-init c =
    let e = c.into_iter-term-iterator.ensures.into_iter_gives in
    record {
      same = ap (find is_default) (ap elements_of e.0 ∙ c.in_ok-term-items.ensures);
      long = e.1 ∙ (c.in_ok-term-items.term-items.ok.0 ∙ sym (ap length e.0));
    }

pub loop-term-preserved : goal.loop-term-preserved
loop-term-preserved c =
    let rest = into_iter_items c.next.new.self in
    let steps : into_iter_items c.loop-term.term-iterator ≡ c.in-Some.term ∷ rest = c.in-Some.ensures.steps.0 in
    record {
      same = find_later is_default c.in-Some.term rest (into_iter_items c.loop-term.term-iterator) _ steps c.loop-term.invariant.same (sym c.is_default.ensures ∙ c.if-is_default.false);
      long = omega (arith, c.loop-term.invariant.long, ap length steps, c.in-Some.ensures.steps.1);
    }

pub returns-then-is_default : goal.returns-then-is_default
returns-then-is_default c =
    let found = find_here is_default c.in-Some.term (into_iter_items c.next.new.self) (into_iter_items c.loop-term.term-iterator) _ c.in-Some.ensures.steps.0 c.loop-term.invariant.same
    (sym c.is_default.ensures ∙ c.if-is_default.true) in
    IfOk-weaker c.ending_text.result _ _ (λ s h. h ∙ sym (ap (λ o. option_map_or ending_text o []) found)) c.ending_text.ensures

pub returns : goal.returns
returns c =
    let none : into_iter_items c.loop-term.term-iterator ≡ [] = nil_from_length _ (sym c.loop-term.invariant.long ∙ c.in-None.ensures.steps.0) in
    c.empty_text.ensures.characters ∙ sym (ap (λ o. option_map_or ending_text o []) (find_none is_default (into_iter_items c.loop-term.term-iterator) _ none c.loop-term.invariant.same))
