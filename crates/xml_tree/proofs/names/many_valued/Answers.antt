use Rattle.std.proofs.Common.{◌+◌, drop, map, sym, subst}
use Rattle.std.proofs.lemmas.Result.{err_from_is_err_and}
use Rattle.xml_text.specs.Views.{placed_view, attribute_view}
use Rattle.xml_tree.specs.Folding.{folded}
use Rattle.xml_tree.specs.Met.{AreMet}
use Rattle.xml_tree.specs.Names.{with_value, valued}
use Rattle.xml_tree.specs.Views.{refusal_of, valued_view, values_view}
use Rattle.xml_tree.proofs.Folded.{folds_on, folds_end, folds_fail, slice_rest, slice_done}
use Rattle.xml_tree.proofs.NamesMet.{none_met}
use Rattle.xml_tree.proofs.names.many_valued.Goals as goal

pub loop-attribute-init : goal.loop-attribute-init
loop-attribute-init c = record {
  same = λ i. folded with_value (map (placed_view valued_view) (c.new-values.ensures.items i)) (map (placed_view attribute_view) c.args.attributes.now);
  met = λ n. subst (λ xs. AreMet c.new-met.result (map (placed_view valued_view) xs)) (sym c.new-values.ensures.items) (none_met c.new-met.result c.new-met.ensures.empty) n;
}

pub loop-attribute-preserved : goal.loop-attribute-preserved
loop-attribute-preserved c =
    let view = placed_view attribute_view in
    let xs = c.args.attributes.now in
    let i = c.loop-attribute.attribute-index in
    let x = c.attribute-item.result in
    record {
      same = folds_on with_value (values_view c.loop-attribute.values) (values_view c.push_valued.new.values) (map view (drop i xs)) (map view (drop (i + 1) xs)) (view x) (valued (map view xs)) c.loop-attribute.invariant.same
          (slice_rest view xs i x c.loop-attribute-test.true c.attribute-item.is) c.in_ok-push_valued.ensures.values;
      met = c.in_ok-push_valued.ensures.met;
    }

pub returns-in_err-push_valued : goal.returns-in_err-push_valued
returns-in_err-push_valued c =
    let p = err_from_is_err_and c.from_residual.result c.from_residual.ensures.1 in
    let view = placed_view attribute_view in
    let xs = c.args.attributes.now in
    let i = c.loop-attribute.attribute-index in
    let x = c.attribute-item.result in
    rw (p.1, p.2) (folds_fail with_value (values_view c.loop-attribute.values) (map view (drop i xs)) (map view (drop (i + 1) xs)) (view x) (refusal_of c.in_err-push_valued.field-0.0) (valued (map view xs)) c.loop-attribute.invariant.same
    (slice_rest view xs i x c.loop-attribute-test.true c.attribute-item.is) c.in_err-push_valued.ensures.values)

pub returns : goal.returns
returns c =
    let view = placed_view attribute_view in
    let xs = c.args.attributes.now in
    folds_end with_value (values_view c.loop-attribute.values) (map view (drop c.loop-attribute.attribute-index xs)) (valued (map view xs)) c.loop-attribute.invariant.same (slice_done view xs c.loop-attribute.attribute-index c.loop-attribute-test.false)
