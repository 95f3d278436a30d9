use Rattle.biblatex.specs.Bibliographies.{listed_view}
use Rattle.cite_requests.proofs.KeysDistinct.{read_distinct}
use Rattle.cite_requests.proofs.bib_file.BibFile.read.Goals as goal

pub checked-requires : goal.checked-requires
checked-requires c = read_distinct c.args.bib.now (listed_view c.in_ok-file.file) c.in_ok-file.ensures
