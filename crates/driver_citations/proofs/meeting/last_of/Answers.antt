use Rattle.std.specs.Str.{chars}
use Rattle.driver_citations.proofs.MeetingTexts.{last_is, no_last}
use Rattle.driver_citations.proofs.meeting.last_of.Goals as goal

pub returns-in-Some : goal.returns-in-Some
returns-in-Some c = last_is (chars c.args.text.now) (chars c.in-Some.field-0-1.now) c.in-Some.last c.in-Some.ensures.chars

pub returns-in-None : goal.returns-in-None
returns-in-None c = no_last (chars c.args.text.now) c.in-None.ensures.chars
