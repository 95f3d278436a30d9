use Rattle.csl_laws.proofs.TextsAlike.{refused_together}
use Rattle.csl_laws.proofs.texts_alike.alike_texts_are_refused_together.Goals as goal

pub returns : goal.returns
returns c = refused_together
