use Rattle.std.proofs.Common.{◌≡◌, [], ◌∷◌, ◌++◌, length, map, sym, ap, ◌∙◌, arith}
use Rattle.std.specs.Vec.Iter.{into_iter_items}
use Rattle.std.proofs.lemmas.List.{nil_from_length}
use Rattle.rendering_locale.specs.Views.{locale_view}
use Rattle.csl_nodes.specs.Views.{words_view}
use Rattle.csl_locales.specs.Called.{elements_of}
use Rattle.csl_locales.proofs.Elements.{makes_on, makes_all}
use Rattle.csl_locales.specs.Locales.{locale}
use Rattle.csl_styles.proofs.locales.locales_of.Goals as goal

pub loop-part-init : goal.loop-part-init
loop-part-init c =
    let e = c.into_iter-part-iterator.ensures.into_iter_gives in
    record {
      same = λ k. map locale_view (c.new-locales.ensures.items k) ++ map (locale (words_view c.args.words.now)) ((ap elements_of e.0 ∙ c.in_ok-part-items.ensures) k);
      long = e.1 ∙ (c.in_ok-part-items.part-items.ok.0 ∙ sym (ap length e.0));
    }

pub loop-part-preserved : goal.loop-part-preserved
loop-part-preserved c =
    let rest = into_iter_items c.next.new.self in
    let steps : into_iter_items c.loop-part.part-iterator ≡ c.in-Some.part ∷ rest = c.in-Some.ensures.steps.0 in
    record {
      same = makes_on locale_view (locale (words_view c.args.words.now)) c.loop-part.locales.items c.push.new.self.items c.in_ok-locale.field-0 c.in-Some.part rest (into_iter_items c.loop-part.part-iterator) _ steps
          c.loop-part.invariant.same c.in_ok-locale.ensures c.in_ok-push.ensures.items;
      long = omega (arith, c.loop-part.invariant.long, ap length steps, c.in-Some.ensures.steps.1);
    }

pub returns : goal.returns
returns c =
    let none : into_iter_items c.loop-part.part-iterator ≡ [] = nil_from_length _ (sym c.loop-part.invariant.long ∙ c.in-None.ensures.steps.0) in
    makes_all locale_view (locale (words_view c.args.words.now)) c.loop-part.locales.items (into_iter_items c.loop-part.part-iterator) _ none c.loop-part.invariant.same
