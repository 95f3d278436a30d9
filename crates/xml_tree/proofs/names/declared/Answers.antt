use Rattle.std.proofs.Common.{◌+◌, drop, map, ap}
use Rattle.std.proofs.lemmas.Result.{err_from_is_err_and}
use Rattle.xml_text.specs.Views.{placed_view}
use Rattle.xml_tree.specs.Folding.{folded}
use Rattle.xml_tree.specs.Names.{declare, declared}
use Rattle.xml_tree.specs.Scope.{Scope}
use Rattle.xml_tree.specs.Views.{refusal_of, bindings_view, valued_view}
use Rattle.xml_tree.proofs.Folded.{folds_on, folds_end, folds_fail, slice_rest, slice_done}
use Rattle.xml_tree.proofs.names.declared.Goals as goal

pub loop-attribute-init : goal.loop-attribute-init
loop-attribute-init c = ap (λ (s : Scope). folded declare s (map (placed_view valued_view) c.args.attributes.now)) c.new-own.ensures

pub loop-attribute-preserved : goal.loop-attribute-preserved
loop-attribute-preserved c =
    let view = placed_view valued_view in
    let xs = c.args.attributes.now in
    let i = c.loop-attribute.attribute-index in
    let x = c.attribute-item.result in
    folds_on declare (bindings_view c.loop-attribute.own) (bindings_view c.push_declaration.new.own) (map view (drop i xs)) (map view (drop (i + 1) xs)) (view x) (declared (map view xs)) c.loop-attribute.invariant
    (slice_rest view xs i x c.loop-attribute-test.true c.attribute-item.is) c.in_ok-push_declaration.ensures

pub returns-in_err-push_declaration : goal.returns-in_err-push_declaration
returns-in_err-push_declaration c =
    let p = err_from_is_err_and c.from_residual.result c.from_residual.ensures.1 in
    let view = placed_view valued_view in
    let xs = c.args.attributes.now in
    let i = c.loop-attribute.attribute-index in
    let x = c.attribute-item.result in
    rw (p.1, p.2) (folds_fail declare (bindings_view c.loop-attribute.own) (map view (drop i xs)) (map view (drop (i + 1) xs)) (view x) (refusal_of c.in_err-push_declaration.field-0.0) (declared (map view xs)) c.loop-attribute.invariant
    (slice_rest view xs i x c.loop-attribute-test.true c.attribute-item.is) c.in_err-push_declaration.ensures)

pub returns : goal.returns
returns c =
    let view = placed_view valued_view in
    let xs = c.args.attributes.now in
    folds_end declare (bindings_view c.loop-attribute.own) (map view (drop c.loop-attribute.attribute-index xs)) (declared (map view xs)) c.loop-attribute.invariant (slice_done view xs c.loop-attribute.attribute-index c.loop-attribute-test.false)
