use Rattle.std.proofs.Common.{rules}
use Rattle.std.specs.Str.{chars}
use Rattle.laws.specs.Text.{characters}
use Rattle.source_positions.proofs.PositionLines.{put_shown}
use Rattle.source_positions.proofs.position.push_shown.Goals as goal

pub loop-c-preserved : goal.loop-c-preserved
loop-c-preserved c =
    (put_shown _ (characters c.loop-c.line) (characters c.push_shown_character.new.line) (chars c.loop-c.rest.now) (chars c.in-Some.more.now) c.in-Some.c c.loop-c.invariant.0 c.in-Some.ensures.chars c.in_ok-push_shown_character.ensures, search rules)
