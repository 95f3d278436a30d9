use Rattle.csl_styles.proofs.Laws.{not_means_refused}
use Rattle.csl_styles.proofs.meanings.no_text_is_both.Goals as goal

pub returns : goal.returns
returns c = not_means_refused
