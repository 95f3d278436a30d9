use Rattle.std.proofs.Common.{◌+◌, drop, map}
use Rattle.std.proofs.lemmas.Result.{err_from_is_err_and}
use Rattle.xml_text.specs.Views.{placed_view, attribute_view}
use Rattle.xml_tree.specs.Folding.{folded}
use Rattle.xml_tree.specs.Names.{with_value, valued}
use Rattle.xml_tree.specs.Views.{refusal_of, valued_view, values_view}
use Rattle.xml_tree.proofs.Folded.{folds_on, folds_end, folds_fail, slice_rest, slice_done}
use Rattle.xml_tree.proofs.names.few_valued.Goals as goal

pub loop-attribute-init : goal.loop-attribute-init
loop-attribute-init c = λ i. folded with_value (map (placed_view valued_view) (c.new-values.ensures.items i)) (map (placed_view attribute_view) c.args.attributes.now)

pub loop-attribute-preserved : goal.loop-attribute-preserved
loop-attribute-preserved c =
    let view = placed_view attribute_view in
    let xs = c.args.attributes.now in
    let i = c.loop-attribute.attribute-index in
    let x = c.attribute-item.result in
    folds_on with_value (values_view c.loop-attribute.values) (values_view c.push_beside_few.new.values) (map view (drop i xs)) (map view (drop (i + 1) xs)) (view x) (valued (map view xs)) c.loop-attribute.invariant
    (slice_rest view xs i x c.loop-attribute-test.true c.attribute-item.is) c.in_ok-push_beside_few.ensures

pub returns-in_err-push_beside_few : goal.returns-in_err-push_beside_few
returns-in_err-push_beside_few c =
    let p = err_from_is_err_and c.from_residual.result c.from_residual.ensures.1 in
    let view = placed_view attribute_view in
    let xs = c.args.attributes.now in
    let i = c.loop-attribute.attribute-index in
    let x = c.attribute-item.result in
    rw (p.1, p.2) (folds_fail with_value (values_view c.loop-attribute.values) (map view (drop i xs)) (map view (drop (i + 1) xs)) (view x) (refusal_of c.in_err-push_beside_few.field-0.0) (valued (map view xs)) c.loop-attribute.invariant
    (slice_rest view xs i x c.loop-attribute-test.true c.attribute-item.is) c.in_err-push_beside_few.ensures)

pub returns : goal.returns
returns c =
    let view = placed_view attribute_view in
    let xs = c.args.attributes.now in
    folds_end with_value (values_view c.loop-attribute.values) (map view (drop c.loop-attribute.attribute-index xs)) (valued (map view xs)) c.loop-attribute.invariant (slice_done view xs c.loop-attribute.attribute-index c.loop-attribute-test.false)
