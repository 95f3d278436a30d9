use Rattle.std.proofs.Common.{◌≡◌, Result, Err, rules, sym, subst}
use Rattle.programs.specs.Files.{read_at}
use Rattle.cite_csl_command.specs.Views.{asked_view}
use Rattle.cite_csl_styles.specs.Answers.{Answers}
use Rattle.cite_csl_styles.specs.Sheets.{Sheet}
use Rattle.cite_csl_styles.specs.Stages.{Gives}
use Rattle.cite_csl_styles.specs.Views.{sheet_view}
use Rattle.cite_csl_styles.specs.declared.stop.Stop.{Stop}
use Rattle.cite_csl_styles.proofs.Staged.{then_goes_on, then_stops}
use Rattle.cite_csl_styles.proofs.Stopped.{stop_weaker}
use Rattle.cite_csl.specs.Run.{IsMadeIn, IsOutput, strict}
use Rattle.cite_csl.specs.Views.{made_view}
use Rattle.cite_csl.specs.declared.making.Made.{Made}
use Rattle.cite_csl.proofs.making.make_in.Goals as goal

pub returns-in_err-told : goal.returns-in_err-told
returns-in_err-told c =
    let read = read_at c.args.files.now in
    let a = asked_view c.args.asked.now in
    let found = sheet_view c.args.sheet.now in
    let taken = strict a.is_strict found in
    let e = c.in_err-told.field-0.0 in
    let is : c.from_residual.result ≡ Err e = search rules in
    subst (λ (r : Result Made Stop). Answers made_view r (IsMadeIn read a found)) (sym is)
    (then_stops e (Gives taken) (λ (s : Sheet). IsOutput read a s)
    (stop_weaker e (λ r. taken ≡ r) (Gives taken) (λ lines so. sym so) c.in_err-told.ensures.stop))

pub returns : goal.returns
returns c =
    let read = read_at c.args.files.now in
    let a = asked_view c.args.asked.now in
    let found = sheet_view c.args.sheet.now in
    then_goes_on made_view c.output_in.result (Gives (strict a.is_strict found)) (λ (s : Sheet). IsOutput read a s) found (sym c.in_ok-told.ensures.stop) c.output_in.ensures
