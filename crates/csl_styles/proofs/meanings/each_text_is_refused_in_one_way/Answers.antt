use Rattle.csl_styles.proofs.Laws.{one_refusal}
use Rattle.csl_styles.proofs.meanings.each_text_is_refused_in_one_way.Goals as goal

pub returns : goal.returns
returns c = one_refusal
