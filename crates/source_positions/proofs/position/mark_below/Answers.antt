use Rattle.std.proofs.Common.{rules}
use Rattle.std.specs.Prelude.{string_bytes}
use Rattle.std.specs.Str.{chars}
use Rattle.source_positions.proofs.PositionLines.{put_blank}
use Rattle.source_positions.proofs.position.mark_below.Goals as goal

pub loop-c-preserved : goal.loop-c-preserved
loop-c-preserved c =
    (put_blank _ (string_bytes c.loop-c.mark) (string_bytes c.push_blank.new.mark) (chars c.loop-c.rest.now) (chars c.in-Some.more.now) c.in-Some.c c.loop-c.invariant.0 c.in-Some.ensures.chars c.in_ok-push_blank.ensures, search rules)
