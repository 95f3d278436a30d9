use Rattle.csl_laws.proofs.TextsAlike.{mean_together}
use Rattle.csl_laws.proofs.texts_alike.alike_texts_mean_the_same.Goals as goal

pub returns : goal.returns
returns c = mean_together
