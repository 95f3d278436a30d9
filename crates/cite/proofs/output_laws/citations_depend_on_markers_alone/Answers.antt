use Rattle.cite.proofs.OutputReplaced.{markers_alone}
use Rattle.cite.proofs.output_laws.citations_depend_on_markers_alone.Goals as goal

pub returns : goal.returns
returns c = markers_alone
