use Rattle.cite.proofs.OutputReplaced.{texts_unchanged}
use Rattle.cite.proofs.output_laws.texts_come_out_unchanged.Goals as goal

pub returns : goal.returns
returns c = texts_unchanged
