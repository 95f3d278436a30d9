use Rattle.std.specs.Str.{chars}
use Rattle.driver_citations.proofs.MeetingTexts.{goes_before, none_before}
use Rattle.driver_citations.proofs.meeting.before_character.Goals as goal

pub returns-in-Some : goal.returns-in-Some
returns-in-Some c =
    goes_before c.args.c (chars c.args.text.now) (chars c.in-Some.front.now) (chars c.left.result.now) c.in-Some.last c.gives_way.result c.in-Some.ensures.chars c.gives_way.ensures c.left.ensures

pub returns-in-None : goal.returns-in-None
returns-in-None c = none_before c.args.c (chars c.args.text.now) c.in-None.ensures.chars
