use Rattle.biblatex_field_types.proofs.ClassesHolding.{texts_hold}
use Rattle.biblatex_field_types.proofs.classes.lists_of_texts_are_read_back.Goals as goal

pub returns : goal.returns
returns c = texts_hold
