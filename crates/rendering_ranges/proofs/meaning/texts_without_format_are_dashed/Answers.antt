use Rattle.rendering_ranges.proofs.RangesLaws.{dashed_without_format}
use Rattle.rendering_ranges.proofs.meaning.texts_without_format_are_dashed.Goals as goal

pub returns : goal.returns
returns c = dashed_without_format
