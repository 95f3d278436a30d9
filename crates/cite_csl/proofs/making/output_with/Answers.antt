use Rattle.std.proofs.Common.{◌≡◌, ℕ, List, Result, Ok, Err, rules, sym, ap, ◌∙◌, subst}
use Rattle.std.specs.Borrow.{Bor}
use Rattle.laws.specs.Borrowed.{borrowed}
use Rattle.programs.specs.Files.{read_at}
use Rattle.cite_output.specs.Pieces as pieces
use Rattle.cite_output.specs.declared.output.Output.{Output}
use Rattle.cite_requests.specs.Works.{Works}
use Rattle.cite_csl_command.specs.Views.{asked_view}
use Rattle.cite_csl_styles.specs.Answers.{Answers, IsStop}
use Rattle.cite_csl_styles.specs.Sources.{SourceFile, file_at, files_at}
use Rattle.cite_csl_styles.specs.Stages.{Gives}
use Rattle.cite_csl_styles.specs.Views.{sources_view}
use Rattle.cite_csl_styles.specs.declared.stop.Stop.{Stop}
use Rattle.cite_csl_styles.proofs.Staged.{then_goes_on, then_stops}
use Rattle.cite_csl_styles.proofs.Stopped.{answers_weaker}
use Rattle.cite_csl.specs.Run.{IsOutputIn, output_of}
use Rattle.cite_order.specs.Views.{setting_view}
use Rattle.cite_csl.specs.Views.{works_view}
use Rattle.cite_csl.specs.Works.{AreWorks}
use Rattle.cite_csl.proofs.making.output_with.Goals as goal

pub returns-in_err-entries : goal.returns-in_err-entries
returns-in_err-entries c =
    let read = read_at c.args.files.now in
    let a = asked_view c.args.asked.now in
    let x = setting_view c.args.setting in
    let e = c.in_err-entries.field-0.0 in
    let are : sources_view c.as_slice-2.result.now ≡ files_at read a.bibs =
    ap sources_view c.as_slice-2.ensures.value ∙ (c.in_ok-bibs.ensures ∙ ap (λ (paths : List (Bor (List ℕ))). files_at read (borrowed paths)) c.as_slice.ensures.value) in
    let is : c.from_residual-in_err-entries.result ≡ Err e = search rules in
    subst (λ (r : Result Output Stop). Answers pieces.output_of r (IsOutputIn read a x)) (sym is)
    (then_stops e (AreWorks (files_at read a.bibs)) (λ (works : Works). Gives (output_of a (file_at read a.document) x works)) (subst (λ (fs : List SourceFile). IsStop e (AreWorks fs)) are c.in_err-entries.ensures))

pub returns : goal.returns
returns c =
    let read = read_at c.args.files.now in
    let a = asked_view c.args.asked.now in
    let x = setting_view c.args.setting in
    let works = works_view c.in_ok-entries.entries in
    let output = output_of a (file_at read a.document) x works in
    let are : sources_view c.as_slice-2.result.now ≡ files_at read a.bibs =
    ap sources_view c.as_slice-2.ensures.value ∙ (c.in_ok-bibs.ensures ∙ ap (λ (paths : List (Bor (List ℕ))). files_at read (borrowed paths)) c.as_slice.ensures.value) in
    then_goes_on pieces.output_of c.document_output.result (AreWorks (files_at read a.bibs)) (λ (w : Works). Gives (output_of a (file_at read a.document) x w)) works
    (subst (λ (fs : List SourceFile). AreWorks fs (Ok works)) are c.in_ok-entries.ensures)
    (answers_weaker pieces.output_of c.document_output.result (λ r. output ≡ r) (Gives output) (λ r so. sym so) c.document_output.ensures)
