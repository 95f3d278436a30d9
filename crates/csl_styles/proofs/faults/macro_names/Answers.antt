use Rattle.std.proofs.Common.{◌≡◌, List, [], ◌∷◌, length, map, sym, ap, ◌∙◌, arith}
use Rattle.std.specs.Vec.Iter.{into_iter_items}
use Rattle.std.proofs.lemmas.List.{nil_from_length}
use Rattle.xml_tree.specs.Trees.{Element}
use Rattle.xml_tree.specs.Views.{element_view}
use Rattle.csl_locales.specs.Called.{elements_of}
use Rattle.csl_locales.specs.Sets.{has_text, is_one_of}
use Rattle.csl_locales.proofs.Texts.{no_texts}
use Rattle.csl_styles.specs.Faults as specs
use Rattle.csl_styles.proofs.Known.{known_first, known_on, known_all}
use Rattle.csl_styles.proofs.faults.macro_names.Goals as goal

pub loop-part-init : goal.loop-part-init
loop-part-init c =
    let e = c.into_iter-part-iterator.ensures.into_iter_gives in
    record {
      known = known_first (has_text c.new-names.result) (is_one_of (specs.macro_names (element_view c.args.root.now))) (into_iter_items c.into_iter-part-iterator.result) (no_texts c.new-names.result c.new-names.ensures.empty)
          (λ t. ap (λ (es : List Element). is_one_of (map specs.macro_name es) t) (ap elements_of e.0 ∙ c.in_ok-part-items.ensures));
      long = e.1 ∙ (c.in_ok-part-items.part-items.ok.0 ∙ sym (ap length e.0));
    }

pub loop-part-preserved : goal.loop-part-preserved
loop-part-preserved c =
    let rest = into_iter_items c.next.new.self in
    let steps : into_iter_items c.loop-part.part-iterator ≡ c.in-Some.part ∷ rest = c.in-Some.ensures.steps.0 in
    record {
      known = known_on (has_text c.loop-part.names) (has_text c.add_text.new.texts) (is_one_of (specs.macro_names (element_view c.args.root.now))) c.macro_name.result.now c.in-Some.part rest
          (into_iter_items c.loop-part.part-iterator) steps c.loop-part.invariant.known c.macro_name.ensures c.in_ok-add_text.ensures.1;
      long = omega (arith, c.loop-part.invariant.long, ap length steps, c.in-Some.ensures.steps.1);
    }

pub returns : goal.returns
returns c =
    let none : into_iter_items c.loop-part.part-iterator ≡ [] = nil_from_length _ (sym c.loop-part.invariant.long ∙ c.in-None.ensures.steps.0) in
    known_all (has_text c.loop-part.names) (is_one_of (specs.macro_names (element_view c.args.root.now))) (into_iter_items c.loop-part.part-iterator) none c.loop-part.invariant.known
