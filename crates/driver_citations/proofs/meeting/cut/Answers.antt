use Rattle.laws.specs.Text.{characters}
use Rattle.driver_citations.proofs.MeetingTexts.{none_cut, one_cut}
use Rattle.driver_citations.proofs.meeting.cut.Goals as goal

pub loop-index-init : goal.loop-index-init
loop-index-init c = none_cut (characters c.args.text.now)

pub loop-index-preserved : goal.loop-index-preserved
loop-index-preserved c =
    one_cut c.loop-index.index (characters c.args.text.now) (characters c.loop-index.text) (characters c.pop_made.new.text) c.pop_made.result c.loop-index.invariant c.pop_made.ensures
