use Rattle.std.specs.Str.{chars}
use Rattle.driver_citations.proofs.MeetingTexts.{before_first, before_none}
use Rattle.driver_citations.proofs.meeting.before_text.Goals as goal

pub returns-in-Some : goal.returns-in-Some
returns-in-Some c =
    before_first (chars c.args.next.now) (chars c.args.text.now) (chars c.in-Some.field-0-1.now) (chars c.before_character.result.now) (chars c.before_character-in-Some.result.now) c.in-Some.c
    c.in-Some.ensures.chars c.before_character.ensures c.before_character-in-Some.ensures

pub returns-in-None : goal.returns-in-None
returns-in-None c = before_none (chars c.args.next.now) (chars c.args.text.now) c.in-None.ensures.chars
