use Rattle.std.proofs.Common.{arith, ◌≤◌, length, ap, ◌∙◌}
use Rattle.rendering_people.specs.Raised.{greater_or}
use Rattle.rendering_people.proofs.RaisedWhole.{greater_all, greater_more, other_at}
use Rattle.rendering_people.proofs.raising.push_greater.Goals as goal

pub loop-index-preserved : goal.loop-index-preserved
loop-index-preserved c =
    greater_more c.args.forms.now c.args.others.now c.args.raised.now.items c.loop-index.raised.items c.push.new.self.items c.loop-index.index _ c.greater_or.result
    c.loop-index-test.true c.loop-index.invariant
    (c.greater_or.ensures ∙ ap (greater_or _) (other_at c.args.others.now c.loop-index.index c.get.result _ c.get.ensures.lookup.1 c.get.ensures.lookup.3))
    c.in_ok-push.ensures.items

pub returns : goal.returns
returns c =
    let past : length c.args.forms.now ≤ c.loop-index.index = omega (arith, c.loop-index-test.false) in
    greater_all c.args.forms.now c.args.others.now c.args.raised.now.items c.loop-index.raised.items c.loop-index.index past c.loop-index.invariant
