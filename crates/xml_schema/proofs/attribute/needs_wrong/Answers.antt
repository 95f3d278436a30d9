use Rattle.std.proofs.Common.{map}
use Rattle.std.specs.List.{filter_map}
use Rattle.xml_text.specs.Views.{placed_view}
use Rattle.xml_tree.specs.Views.{attribute_view}
use Rattle.xml_schema.specs.Faults.{need_wrong, first_of}
use Rattle.xml_schema.specs.Views.{wrong_view}
use Rattle.xml_schema.proofs.Firsts.{finds_on_at, finds_here_at, finds_none_at}
use Rattle.xml_schema.proofs.attribute.needs_wrong.Goals as goal

pub loop-need-preserved : goal.loop-need-preserved
loop-need-preserved c =
    let h = need_wrong (map (placed_view attribute_view) c.args.attributes.now) in
    finds_on_at h c.args.needs.now c.loop-need.need-index _ (first_of (filter_map h c.args.needs.now)) c.loop-need.invariant c.loop-need-test.true c.in-None.ensures

pub returns-in-Some : goal.returns-in-Some
returns-in-Some c =
    let h = need_wrong (map (placed_view attribute_view) c.args.attributes.now) in
    finds_here_at h c.args.needs.now c.loop-need.need-index _ (wrong_view c.in-Some.wrong) (first_of (filter_map h c.args.needs.now)) c.loop-need.invariant c.loop-need-test.true c.in-Some.ensures

pub returns : goal.returns
returns c =
    let h = need_wrong (map (placed_view attribute_view) c.args.attributes.now) in
    finds_none_at h c.args.needs.now c.loop-need.need-index (first_of (filter_map h c.args.needs.now)) c.loop-need.invariant c.loop-need-test.false
