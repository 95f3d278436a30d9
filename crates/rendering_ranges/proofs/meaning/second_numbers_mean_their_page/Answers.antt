use Rattle.rendering_ranges.proofs.CountsMeaning.{same_page}
use Rattle.rendering_ranges.proofs.meaning.second_numbers_mean_their_page.Goals as goal

pub returns : goal.returns
returns c = same_page
