use Rattle.interop_roads.proofs.FlatAlike.{flat_bridged, flat_library}
use Rattle.interop_roads.proofs.flat_entries_have_one_library.Goals as goal

pub returns-clause-entry : goal.returns-clause-entry
returns-clause-entry c = flat_bridged

pub returns-clause-library : goal.returns-clause-library
returns-clause-library c = flat_library
