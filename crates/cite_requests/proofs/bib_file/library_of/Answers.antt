use Rattle.std.proofs.Common.{refl}
use Rattle.std.proofs.lemmas.Result.{err_from_is_err_and}
use Rattle.biblatex.specs.Bibliographies.{listed_view}
use Rattle.interop.specs.Library.{library_of}
use Rattle.cite_requests.specs.Cited.{marked_entries}
use Rattle.cite_requests.specs.Stages.{fields_refused, refused_as}
use Rattle.cite_requests.proofs.Bridged.{refused}
use Rattle.cite_requests.proofs.bib_file.library_of.Goals as goal

pub returns-in_err-marked_library : goal.returns-in_err-marked_library
returns-in_err-marked_library c =
    let p = err_from_is_err_and c.from_residual.result c.from_residual.ensures.1 in
    rw (p.1, p.2) (refused (refused_as fields_refused) _ (library_of (marked_entries c.args.marks.now (listed_view c.args.file.now).entries)) (λ fs. refl) c.in_err-marked_library.ensures)
