use Rattle.std.proofs.Common.{◌≡◌, Result, Err, rules, sym, ap, ◌∙◌, subst}
use Rattle.programs.specs.Files.{read_at}
use Rattle.cite_markers.specs.Views.{document_view}
use Rattle.cite_output.specs.Pieces as pieces
use Rattle.cite_output.specs.declared.output.Output.{Output}
use Rattle.cite_csl_command.specs.Views.{asked_view}
use Rattle.cite_csl_styles.specs.Answers.{IsStop, Returns}
use Rattle.cite_csl_styles.specs.Sources.{SourceFile, file_at}
use Rattle.cite_csl_styles.specs.Views.{source_view}
use Rattle.cite_csl_styles.specs.declared.stop.Stop.{Stop}
use Rattle.cite_csl.specs.Names.{pieces_of}
use Rattle.cite_csl.specs.Run.{output_of}
use Rattle.cite_order.specs.Views.{setting_view}
use Rattle.cite_csl.specs.Views.{works_view}
use Rattle.cite_csl.proofs.Outputs.{document_goes_on, document_stops}
use Rattle.cite_csl.proofs.making.document_output.Goals as goal

pub returns-in_err-read : goal.returns-in_err-read
returns-in_err-read c =
    let a = asked_view c.args.asked.now in
    let d = file_at (read_at c.args.files.now) a.document in
    let x = setting_view c.args.setting in
    let works = works_view c.args.entries.now in
    let is : c.from_residual.result ≡ Err c.in_err-read.field-0.0 = search rules in
    let stop = subst (λ (f : SourceFile). IsStop c.in_err-read.field-0.0 (λ r. pieces_of f ≡ r)) c.file_at.ensures c.in_err-read.ensures.pieces in
    subst (λ (r : Result Output Stop). Returns pieces.output_of r (output_of a d x works)) (sym is)
    (document_stops c.in_err-read.field-0.0 a d x works stop)

pub returns : goal.returns
returns c =
    let a = asked_view c.args.asked.now in
    let d = file_at (read_at c.args.files.now) a.document in
    document_goes_on pieces.output_of c.output_of.result a d (source_view c.in_ok-read.read.file) (setting_view c.args.setting) (works_view c.args.entries.now) (document_view c.in_ok-read.read.document)
    (ap pieces_of (sym c.file_at.ensures) ∙ c.in_ok-read.ensures.pieces) (c.in_ok-read.ensures.file ∙ c.file_at.ensures) c.output_of.ensures
