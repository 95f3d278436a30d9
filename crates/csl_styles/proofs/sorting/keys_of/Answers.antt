use Rattle.std.proofs.Common.{◌≡◌, [], ◌∷◌, ◌++◌, length, map, sym, ap, ◌∙◌, arith}
use Rattle.std.specs.Vec.Iter.{into_iter_items}
use Rattle.std.proofs.lemmas.List.{nil_from_length}
use Rattle.rendering_style.specs.Views.{sort_key_view}
use Rattle.csl_locales.specs.Called.{elements_of}
use Rattle.csl_locales.proofs.Elements.{makes_on, makes_all}
use Rattle.csl_styles.specs.Layouts.{sort_key}
use Rattle.csl_styles.proofs.sorting.keys_of.Goals as goal

pub loop-key-init : goal.loop-key-init
loop-key-init c =
    let e = c.into_iter-key-iterator.ensures.into_iter_gives in
    record {
      same = λ k. map sort_key_view (c.new-keys.ensures.items k) ++ map sort_key ((ap elements_of e.0 ∙ c.in_ok-key-items.ensures) k);
      long = e.1 ∙ (c.in_ok-key-items.key-items.ok.0 ∙ sym (ap length e.0));
    }

pub loop-key-preserved : goal.loop-key-preserved
loop-key-preserved c =
    let rest = into_iter_items c.next.new.self in
    let steps : into_iter_items c.loop-key.key-iterator ≡ c.in-Some.key ∷ rest = c.in-Some.ensures.steps.0 in
    record {
      same = makes_on sort_key_view sort_key c.loop-key.keys.items c.push.new.self.items c.in_ok-sort_key.field-0 c.in-Some.key rest (into_iter_items c.loop-key.key-iterator) _ steps
          c.loop-key.invariant.same c.in_ok-sort_key.ensures c.in_ok-push.ensures.items;
      long = omega (arith, c.loop-key.invariant.long, ap length steps, c.in-Some.ensures.steps.1);
    }

pub returns : goal.returns
returns c =
    let none : into_iter_items c.loop-key.key-iterator ≡ [] = nil_from_length _ (sym c.loop-key.invariant.long ∙ c.in-None.ensures.steps.0) in
    makes_all sort_key_view sort_key c.loop-key.keys.items (into_iter_items c.loop-key.key-iterator) _ none c.loop-key.invariant.same
