use Rattle.std.proofs.Common.{refl}
use Rattle.std.proofs.lemmas.Result.{err_from_is_err_and}
use Rattle.interop.specs.Library.{library_of}
use Rattle.interop.specs.Views.{lent_sources_view}
use Rattle.cite_requests.specs.Stages.{fields_refused, refused_as}
use Rattle.cite_requests.proofs.Bridged.{refused}
use Rattle.cite_csl.proofs.engine.library_of.Goals as goal

pub returns-in_err-from_entries : goal.returns-in_err-from_entries
returns-in_err-from_entries c =
    let p = err_from_is_err_and c.from_residual.result c.from_residual.ensures.1 in
    rw (p.1, p.2) (refused (refused_as fields_refused) _ (library_of (lent_sources_view c.args.entries.now)) (λ fs. refl) c.in_err-from_entries.ensures)
