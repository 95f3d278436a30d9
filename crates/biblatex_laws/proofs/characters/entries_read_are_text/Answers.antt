use Rattle.biblatex_laws.proofs.FilesText.{file_is_text}
use Rattle.biblatex_laws.proofs.characters.entries_read_are_text.Goals as goal

pub returns : goal.returns
returns c = file_is_text
