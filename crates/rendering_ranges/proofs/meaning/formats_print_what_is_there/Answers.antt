use Rattle.rendering_ranges.proofs.RangesLaws.{filled}
use Rattle.rendering_ranges.proofs.meaning.formats_print_what_is_there.Goals as goal

pub returns : goal.returns
returns c = filled
