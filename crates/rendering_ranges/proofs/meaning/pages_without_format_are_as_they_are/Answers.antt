use Rattle.rendering_ranges.proofs.RangesLaws.{without_format}
use Rattle.rendering_ranges.proofs.meaning.pages_without_format_are_as_they_are.Goals as goal

pub returns : goal.returns
returns c = without_format
