use Rattle.std.proofs.Common.{refl}
use Rattle.std.proofs.lemmas.Result.{err_from_is_err_and}
use Rattle.biblatex.specs.Bibliographies.{listed_view}
use Rattle.interop.specs.Library.{library_of}
use Rattle.cite_requests.specs.Stages.{fields_refused, refused_as}
use Rattle.cite_requests.proofs.Bridged.{refused}
use Rattle.cite_csl.proofs.engine.whole_library.Goals as goal

pub returns-in_err-from_biblatex : goal.returns-in_err-from_biblatex
returns-in_err-from_biblatex c =
    let p = err_from_is_err_and c.from_residual.result c.from_residual.ensures.1 in
    rw (p.1, p.2) (refused (refused_as fields_refused) _ (library_of (listed_view c.args.file.now).entries) (λ fs. refl) c.in_err-from_biblatex.ensures.library)
