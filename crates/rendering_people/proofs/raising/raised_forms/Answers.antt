use Rattle.rendering_people.specs.Raised.{raised_forms}
use Rattle.rendering_people.proofs.RaisedWhole.{run_goes_on}
use Rattle.rendering_people.proofs.raising.raised_forms.Goals as goal

pub loop-count-preserved : goal.loop-count-preserved
loop-count-preserved c =
    run_goes_on c.args.counts.now c.args.others.now c.args.other_forms.now c.loop-count.rest.now c.split_forms.result.1.now c.split_forms.result.0.now c.forms_like.result.now
    c.loop-count.raised.items c.push_greater.new.raised.items (raised_forms c.args.counts.now c.args.forms.now c.args.others.now c.args.other_forms.now) c.loop-count.count-index _
    c.loop-count-test.true c.split_forms.ensures.first c.split_forms.ensures.others c.forms_like.ensures c.loop-count.invariant c.in_ok-push_greater.ensures
