use Rattle.std.proofs.Common.{map, sym}
use Rattle.laws.specs.Text.{spelled}
use Rattle.laws.proofs.Results.{ok_is}
use Rattle.interop.specs.Views.{library_view}
use Rattle.cite_markers.specs.Views.{document_view}
use Rattle.cite_requests.specs.Cited.{library_needed}
use Rattle.cite_requests.specs.Stages.{Refusal}
use Rattle.cite_csl.specs.Views.{works_view}
use Rattle.cite_csl.proofs.engine.render.Goals as goal

pub rendered_or_lines-rendered-requires : goal.rendered_or_lines-rendered-requires
rendered_or_lines-rendered-requires c =
    sym (ok_is {F = Refusal} (library_needed (works_view c.args.entries.now).file (map spelled c.args.sections.now) (document_view c.args.document.now.document)) (library_view c.in-Ok.library) c.in-Ok.ensures)
