use Rattle.std.proofs.Common.{refl}
use Rattle.std.proofs.lemmas.Result.{err_from_is_err_and}
use Rattle.biblatex.specs.Bibliographies.{listed_view}
use Rattle.interop.specs.Library.{library_of}
use Rattle.cite_requests.specs.Stages.{works_from}
use Rattle.cite_requests.proofs.Bridged.{refused}
use Rattle.cite_requests.proofs.bib_file.BibFile.checked.Goals as goal

pub returns-in_err-check_catalog : goal.returns-in_err-check_catalog
returns-in_err-check_catalog c =
    let p = err_from_is_err_and c.from_residual.result c.from_residual.ensures.1 in
    rw (p.1, p.2) (refused (works_from (listed_view c.args.file)) _ (library_of (listed_view c.args.file).entries) (λ fs. refl) c.in_err-check_catalog.ensures)
