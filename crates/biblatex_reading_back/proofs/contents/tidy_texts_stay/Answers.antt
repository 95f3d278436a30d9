use Rattle.biblatex_reading_back.proofs.TidyMade.{same_tidy}
use Rattle.biblatex_reading_back.proofs.TidySame.{tidied_same}
use Rattle.biblatex_reading_back.proofs.contents.tidy_texts_stay.Goals as goal

pub returns : goal.returns
returns c = λ ms. (tidied_same ms, same_tidy ms)
