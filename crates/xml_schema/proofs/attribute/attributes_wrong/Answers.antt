use Rattle.std.proofs.Common.{◌+◌, drop, map}
use Rattle.xml_text.specs.Views.{placed_view}
use Rattle.xml_tree.specs.Views.{attribute_view}
use Rattle.xml_tree.proofs.Folded.{slice_rest, slice_done}
use Rattle.std.specs.List.{filter_map}
use Rattle.xml_schema.specs.Faults.{attribute_wrong, first_of}
use Rattle.xml_schema.specs.Views.{wrong_view}
use Rattle.xml_schema.proofs.Firsts.{finds_on, finds_here, finds_none}
use Rattle.xml_schema.proofs.attribute.attributes_wrong.Goals as goal

pub loop-attribute-preserved : goal.loop-attribute-preserved
loop-attribute-preserved c =
    let h = attribute_wrong c.args.schema.now c.args.rule.now in
    let view = placed_view attribute_view in
    let xs = c.args.attributes.now in
    let i = c.loop-attribute.attribute-index in
    let x = c.attribute-item.result in
    finds_on h (map view (drop i xs)) (map view (drop (i + 1) xs)) (view x) (first_of (filter_map h (map view xs))) c.loop-attribute.invariant
    (slice_rest view xs i x c.loop-attribute-test.true c.attribute-item.is) c.in-None.ensures

pub returns-in-Some : goal.returns-in-Some
returns-in-Some c =
    let h = attribute_wrong c.args.schema.now c.args.rule.now in
    let view = placed_view attribute_view in
    let xs = c.args.attributes.now in
    let i = c.loop-attribute.attribute-index in
    let x = c.attribute-item.result in
    finds_here h (map view (drop i xs)) (map view (drop (i + 1) xs)) (view x) (wrong_view c.in-Some.wrong) (first_of (filter_map h (map view xs))) c.loop-attribute.invariant
    (slice_rest view xs i x c.loop-attribute-test.true c.attribute-item.is) c.in-Some.ensures

pub returns : goal.returns
returns c =
    let h = attribute_wrong c.args.schema.now c.args.rule.now in
    let view = placed_view attribute_view in
    let xs = c.args.attributes.now in
    finds_none h (map view (drop c.loop-attribute.attribute-index xs)) (first_of (filter_map h (map view xs))) c.loop-attribute.invariant (slice_done view xs c.loop-attribute.attribute-index c.loop-attribute-test.false)
