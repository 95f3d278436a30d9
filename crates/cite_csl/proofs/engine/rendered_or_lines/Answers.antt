use Rattle.std.proofs.Common.{◌≡◌, Err, map, string_bytes, sym, ap, ◌∙◌}
use Rattle.std.proofs.lemmas.Result.{IfOk-weaker}
use Rattle.laws.specs.Text.{spelled}
use Rattle.interop.specs.Views.{library_view}
use Rattle.cite_markers.specs.Views.{document_view}
use Rattle.cite_order.specs.Order.{rendered_in_order}
use Rattle.cite_csl_styles.specs.Views.{source_view}
use Rattle.cite_csl_styles.proofs.Stopped.{stopped_by}
use Rattle.cite_csl.specs.Names.{rendered_lines}
use Rattle.cite_order.specs.Views.{setting_view}
use Rattle.cite_csl.specs.Views.{works_view}
use Rattle.cite_csl.specs.Works.{said_by}
use Rattle.cite_csl.proofs.NamesNeeded.{said_needed}
use Rattle.cite_csl.proofs.engine.rendered_or_lines.Goals as goal

pub returns-in-Ok : goal.returns-in-Ok
returns-in-Ok c =
    ap (said_by (rendered_lines (source_view c.args.document.now.file) (works_view c.args.works.entries.now) (document_view c.args.document.now.document))) c.in-Ok.ensures

pub returns-in-Err : goal.returns-in-Err
returns-in-Err c =
    let d = source_view c.args.document.now.file in
    let works = works_view c.args.works.entries.now in
    let sections = map spelled c.args.sections.now in
    let pieces = document_view c.args.document.now.document in
    let library = library_view c.args.works.library.now in
    let stage = rendered_in_order works (setting_view c.args.setting) sections pieces in
    stopped_by c.refused.result c.lines_for.result (λ a. said_by (rendered_lines d works pieces) stage ≡ a) c.refused.ensures
    (IfOk-weaker c.lines_for.result _ (λ s. said_by (rendered_lines d works pieces) stage ≡ Err (string_bytes s))
    (λ s h. sym (said_needed d works.file library sections pieces stage (sym c.requires)) ∙ h) (c.lines_for.ensures stage c.in-Err.ensures))
