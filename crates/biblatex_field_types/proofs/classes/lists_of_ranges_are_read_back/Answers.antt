use Rattle.std.proofs.Common.{◌∷◌}
use Rattle.biblatex_field_types.proofs.ClassesHolding.{ranges_hold}
use Rattle.biblatex_field_types.proofs.classes.lists_of_ranges_are_read_back.Goals as goal

pub returns : goal.returns
returns c = λ r rs are. ranges_hold (r ∷ rs) are
