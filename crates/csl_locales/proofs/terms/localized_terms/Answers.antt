use Rattle.std.proofs.Common.{◌≡◌, [], ◌∷◌, ◌++◌, length, map, sym, ap, ◌∙◌, arith}
use Rattle.std.specs.Vec.Iter.{into_iter_items}
use Rattle.std.proofs.lemmas.List.{nil_from_length}
use Rattle.csl_nodes.specs.Views.{words_view}
use Rattle.rendering_locale.specs.Views.{term_view}
use Rattle.csl_locales.specs.Called.{elements_of}
use Rattle.csl_locales.specs.Terms.{localized_term}
use Rattle.csl_locales.proofs.Elements.{makes_on, makes_all}
use Rattle.csl_locales.proofs.terms.localized_terms.Goals as goal

pub loop-term-init : goal.loop-term-init
loop-term-init c =
    let e = c.into_iter-term-iterator.ensures.into_iter_gives in
    record {
      same = λ k. map term_view (c.new-terms.ensures.items k) ++ map (localized_term (words_view c.args.words.now)) ((ap elements_of e.0 ∙ c.in_ok-term-items.ensures) k);
      long = e.1 ∙ (c.in_ok-term-items.term-items.ok.0 ∙ sym (ap length e.0));
    }

pub loop-term-preserved : goal.loop-term-preserved
loop-term-preserved c =
    let rest = into_iter_items c.next.new.self in
    let steps : into_iter_items c.loop-term.term-iterator ≡ c.in-Some.term ∷ rest = c.in-Some.ensures.steps.0 in
    record {
      same = makes_on term_view (localized_term (words_view c.args.words.now)) c.loop-term.terms.items c.push.new.self.items c.in_ok-localized_term.field-0 c.in-Some.term rest (into_iter_items c.loop-term.term-iterator) _ steps
          c.loop-term.invariant.same c.in_ok-localized_term.ensures c.in_ok-push.ensures.items;
      long = omega (arith, c.loop-term.invariant.long, ap length steps, c.in-Some.ensures.steps.1);
    }

pub returns : goal.returns
returns c =
    let none : into_iter_items c.loop-term.term-iterator ≡ [] = nil_from_length _ (sym c.loop-term.invariant.long ∙ c.in-None.ensures.steps.0) in
    makes_all term_view (localized_term (words_view c.args.words.now)) c.loop-term.terms.items (into_iter_items c.loop-term.term-iterator) _ none c.loop-term.invariant.same
