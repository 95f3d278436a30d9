use Rattle.csl_styles.proofs.Laws.{one_file}
use Rattle.csl_styles.proofs.meanings.each_text_means_one_file.Goals as goal

pub returns : goal.returns
returns c = one_file
