use Rattle.cite_laws.proofs.HiddenMarkers.{hidden_markers}
use Rattle.cite_laws.proofs.names.hidden_markers_print_nothing.Goals as goal

pub returns : goal.returns
returns c = hidden_markers
