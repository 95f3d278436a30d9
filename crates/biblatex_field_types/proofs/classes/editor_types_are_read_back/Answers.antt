use Rattle.biblatex_field_types.proofs.ClassesHolding.{editors_hold}
use Rattle.biblatex_field_types.proofs.classes.editor_types_are_read_back.Goals as goal

pub returns : goal.returns
returns c = editors_hold
