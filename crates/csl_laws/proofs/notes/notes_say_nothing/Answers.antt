use Rattle.csl_laws.proofs.NotesNothing.{notes_nothing}
use Rattle.csl_laws.proofs.notes.notes_say_nothing.Goals as goal

pub returns : goal.returns
returns c = notes_nothing
