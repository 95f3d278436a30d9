use Rattle.csl_styles.proofs.Informed.{means_same}
use Rattle.csl_styles.proofs.meanings.info_says_categories_and_parent.Goals as goal

pub returns : goal.returns
returns c = means_same
