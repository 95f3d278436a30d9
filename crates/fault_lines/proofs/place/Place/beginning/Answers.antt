use Rattle.fault_lines.proofs.PlacesCounted.{begins}
use Rattle.fault_lines.proofs.place.Place.beginning.Goals as goal

pub returns : goal.returns
returns c source = begins source
