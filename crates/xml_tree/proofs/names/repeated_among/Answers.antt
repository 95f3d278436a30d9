use Rattle.std.proofs.Common.{◌≡◌, true, false, sym}
use Rattle.xml_tree.specs.Views.{full_name_view}
use Rattle.xml_tree.proofs.NamesMet.{was_met, was_new, has_full, none_repeated, repeated_here, repeated_later, repeated_nowhere}
use Rattle.xml_tree.proofs.names.repeated_among.Goals as goal

pub loop-attribute-init : goal.loop-attribute-init
loop-attribute-init c = none_repeated c.new-met.result c.args.attributes.now c.new-met.ensures.empty

pub loop-attribute-preserved : goal.loop-attribute-preserved
loop-attribute-preserved c =
    let x = c.attribute-item.result in
    let unmet : has_full c.loop-attribute.met (full_name_view x.v.name) ≡ false = was_new c.in_ok-is_new.is_new (has_full c.loop-attribute.met (full_name_view x.v.name)) c.in_ok-is_new.ensures.0 c.if-not-is_new.false in
    repeated_later c.loop-attribute.met c.args.attributes.now c.loop-attribute.attribute-index x _ c.loop-attribute.invariant c.add_full_name.new.met c.loop-attribute-test.true c.attribute-item.is unmet c.in_ok-is_new.ensures.1

pub returns-then-not-is_new : goal.returns-then-not-is_new
returns-then-not-is_new c =
    let x = c.attribute-item.result in
    let met : has_full c.loop-attribute.met (full_name_view x.v.name) ≡ true = was_met c.in_ok-is_new.is_new (has_full c.loop-attribute.met (full_name_view x.v.name)) c.in_ok-is_new.ensures.0 c.if-not-is_new.true in
    sym (repeated_here c.loop-attribute.met c.args.attributes.now c.loop-attribute.attribute-index x _ c.loop-attribute.invariant c.loop-attribute-test.true c.attribute-item.is met)

pub returns : goal.returns
returns c = sym (repeated_nowhere c.loop-attribute.met c.args.attributes.now c.loop-attribute.attribute-index _ c.loop-attribute.invariant c.loop-attribute-test.false)
