use Rattle.std.specs.List.{filter_map}
use Rattle.xml_tree.specs.Trees.{content_of}
use Rattle.xml_tree.specs.Views.{children_of}
use Rattle.xml_schema.specs.Faults.{child_wrong, first_of}
use Rattle.xml_schema.specs.Views.{wrong_view}
use Rattle.xml_schema.proofs.Firsts.{finds_on_at, finds_here_at, finds_none_at}
use Rattle.xml_schema.proofs.child.children_wrong.Goals as goal

pub loop-rule-preserved : goal.loop-rule-preserved
loop-rule-preserved c = λ t.
    let h = child_wrong c.args.schema.now (content_of (children_of c.args.children.now) t) in
    finds_on_at h c.args.rules.now c.loop-rule.rule-index _ (first_of (filter_map h c.args.rules.now)) (c.loop-rule.invariant t) c.loop-rule-test.true (c.in-None.ensures t)

pub returns-in-Some : goal.returns-in-Some
returns-in-Some c = λ t.
    let h = child_wrong c.args.schema.now (content_of (children_of c.args.children.now) t) in
    finds_here_at h c.args.rules.now c.loop-rule.rule-index _ (wrong_view c.in-Some.wrong) (first_of (filter_map h c.args.rules.now)) (c.loop-rule.invariant t) c.loop-rule-test.true (c.in-Some.ensures t)

pub returns : goal.returns
returns c = λ t.
    let h = child_wrong c.args.schema.now (content_of (children_of c.args.children.now) t) in
    finds_none_at h c.args.rules.now c.loop-rule.rule-index (first_of (filter_map h c.args.rules.now)) (c.loop-rule.invariant t) c.loop-rule-test.false
