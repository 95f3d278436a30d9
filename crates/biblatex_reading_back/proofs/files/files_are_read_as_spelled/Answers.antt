use Rattle.biblatex_grammar.proofs.Laws.{held-read}
use Rattle.biblatex_reading_back.specs.Spelled.{file_of}
use Rattle.biblatex_reading_back.proofs.SpelledEntries.{file_held}
use Rattle.biblatex_reading_back.proofs.files.files_are_read_as_spelled.Goals as goal

pub returns : goal.returns
returns c es all =
    let file = file_held es all in
    record { raw = file.raw; read = held-read (file_of es) file.raw file.held; says = file.says }
