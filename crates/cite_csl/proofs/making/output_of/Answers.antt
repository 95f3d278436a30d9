use Rattle.std.proofs.Common.{◌≡◌, ℕ, List, map, Result, Err, rules, sym, ap, ◌∙◌, subst}
use Rattle.std.specs.Borrow.{Bor}
use Rattle.laws.specs.Text.{spelled}
use Rattle.cite_markers.specs.Views.{document_view}
use Rattle.driver.specs.RenderedViews.{rendered_view}
use Rattle.cite_output.specs.Pieces.{output_of}
use Rattle.cite_output.specs.declared.output.Output.{Output}
use Rattle.cite_csl_command.specs.Views.{asked_view}
use Rattle.cite_csl_styles.specs.Answers.{Returns}
use Rattle.cite_csl_styles.specs.Views.{source_view}
use Rattle.cite_csl_styles.specs.declared.stop.Stop.{Stop}
use Rattle.cite_csl.specs.Run.{output_for}
use Rattle.cite_order.specs.Views.{setting_view}
use Rattle.cite_csl.specs.Views.{works_view}
use Rattle.cite_csl.proofs.Outputs.{output_is, output_stops}
use Rattle.cite_csl.proofs.RunSaid.{spelled_are}
use Rattle.cite_csl.proofs.making.output_of.Goals as goal

pub returns-in_err-rendered : goal.returns-in_err-rendered
returns-in_err-rendered c =
    let a = asked_view c.args.asked.now in
    let d = source_view c.args.read.file in
    let x = setting_view c.args.setting in
    let works = works_view c.args.entries.now in
    let pieces = document_view c.args.read.document in
    let same = ap (λ (s : List (Bor (List ℕ))). map spelled s) c.as_slice.ensures.value ∙ spelled_are c.args.asked.now.sections.items in
    let is : c.from_residual.result ≡ Err c.in_err-rendered.field-0.0 = search rules in
    subst (λ (r : Result Output Stop). Returns output_of r (output_for a d x works pieces)) (sym is)
    (output_stops c.in_err-rendered.field-0.0 a (map spelled c.as_slice.result.now) d x works pieces same c.in_err-rendered.ensures)

pub returns : goal.returns
returns c =
    let same = ap (λ (s : List (Bor (List ℕ))). map spelled s) c.as_slice.ensures.value ∙ spelled_are c.args.asked.now.sections.items in
    output_is (asked_view c.args.asked.now) (map spelled c.as_slice.result.now) (source_view c.args.read.file) (setting_view c.args.setting) (works_view c.args.entries.now) (document_view c.args.read.document)
    (rendered_view c.in_ok-rendered.rendered) same c.in_ok-rendered.ensures
