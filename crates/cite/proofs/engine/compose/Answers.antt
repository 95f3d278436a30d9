use Rattle.std.proofs.Common.{◌≡◌, Result, Err, rules, sym, subst}
use Rattle.driver.specs.RenderedViews.{rendered_view}
use Rattle.cite_markers.specs.Views.{document_view}
use Rattle.cite_requests.specs.Answers.{Answers}
use Rattle.cite_output.specs.Pieces.{output_of}
use Rattle.cite.specs.Verdict.{IsVerdict}
use Rattle.cite_requests.specs.Views.{file_works}
use Rattle.cite.specs.Views.{task_of}
use Rattle.cite_requests.specs.declared.error.CiteError.{CiteError}
use Rattle.cite_output.specs.declared.output.Output.{Output}
use Rattle.cite_requests.proofs.AnswersWeaker.{refused_weaker}
use Rattle.cite.proofs.VerdictStages.{works_stop, document_stops, rendering_stops, ends}
use Rattle.cite.proofs.engine.compose.Goals as goal

pub returns-in_err-bib_file : goal.returns-in_err-bib_file
returns-in_err-bib_file c =
    let task = task_of c.args.document.now c.args.style.now c.args.locale.now c.args.sections.now c.args.format in
    let is : c.from_residual.result ≡ Err c.in_err-bib_file.field-0.0 = search rules in
    subst (λ (r : Result Output CiteError). Answers output_of r (IsVerdict c.args.bib.now task)) (sym is)
    (refused_weaker c.in_err-bib_file.field-0.0 _ (IsVerdict c.args.bib.now task) (λ r h. works_stop c.args.bib.now task r h) c.in_err-bib_file.ensures)

pub returns-in_err-document : goal.returns-in_err-document
returns-in_err-document c =
    let task = task_of c.args.document.now c.args.style.now c.args.locale.now c.args.sections.now c.args.format in
    let is : c.from_residual-in_err-document.result ≡ Err c.in_err-document.field-0.0 = search rules in
    subst (λ (r : Result Output CiteError). Answers output_of r (IsVerdict c.args.bib.now task)) (sym is)
    (refused_weaker c.in_err-document.field-0.0 _ (IsVerdict c.args.bib.now task) (λ r h. document_stops c.args.bib.now (file_works c.in_ok-bib_file.bib_file) task r c.in_ok-bib_file.ensures h) c.in_err-document.ensures)

pub returns-in_err-rendered : goal.returns-in_err-rendered
returns-in_err-rendered c =
    let task = task_of c.args.document.now c.args.style.now c.args.locale.now c.args.sections.now c.args.format in
    let is : c.from_residual-in_err-rendered.result ≡ Err c.in_err-rendered.field-0.0 = search rules in
    subst (λ (r : Result Output CiteError). Answers output_of r (IsVerdict c.args.bib.now task)) (sym is)
    (refused_weaker c.in_err-rendered.field-0.0 _ (IsVerdict c.args.bib.now task)
    (λ r h. rendering_stops c.args.bib.now (file_works c.in_ok-bib_file.bib_file) task (document_view c.in_ok-document.document) r c.in_ok-bib_file.ensures c.in_ok-document.ensures h) c.in_err-rendered.ensures)

pub returns : goal.returns
returns c =
    let task = task_of c.args.document.now c.args.style.now c.args.locale.now c.args.sections.now c.args.format in
    ends c.args.bib.now (file_works c.in_ok-bib_file.bib_file) task (document_view c.in_ok-document.document) (rendered_view c.in_ok-rendered.rendered) c.in_ok-bib_file.ensures c.in_ok-document.ensures c.in_ok-rendered.ensures
