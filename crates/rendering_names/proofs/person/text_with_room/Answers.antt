use Rattle.std.proofs.Common.{ap}
use Rattle.std.specs.Str.{chars}
use Rattle.rendering_names.proofs.person.text_with_room.Goals as goal

pub returns : goal.returns
unfolding chars
returns c = ap chars c.in_ok-text.ensures.bytes
