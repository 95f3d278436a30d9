use Rattle.biblatex_fields.specs.Abbreviations.{references}
use Rattle.biblatex_meaning.proofs.Flags.{marks_of, flags_there}
use Rattle.biblatex_meaning.proofs.graphs.each_list_of_definitions_has_flags.Goals as goal

pub returns : goal.returns
returns c definitions = (marks_of (references definitions), flags_there definitions)
