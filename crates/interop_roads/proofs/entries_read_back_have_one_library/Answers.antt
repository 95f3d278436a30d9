use Rattle.interop_roads.proofs.ReadBackAlike.{back_library}
use Rattle.interop_roads.proofs.entries_read_back_have_one_library.Goals as goal

pub returns : goal.returns
returns c = back_library
