use Rattle.std.proofs.Common.{◌≡◌, Result, Err, rules, sym, subst}
use Rattle.programs.specs.Files.{read_at}
use Rattle.cite_csl_command.specs.Views.{asked_view}
use Rattle.cite_csl_styles.specs.Answers.{Answers}
use Rattle.cite_csl_styles.specs.Sheets.{Found, Sheet, IsCslRead, IsSheet, IsSheetOf}
use Rattle.cite_csl_styles.specs.Sources.{AreRead, file_at}
use Rattle.cite_csl_styles.specs.Views.{found_view}
use Rattle.cite_csl_styles.specs.declared.sheets.Found as code
use Rattle.cite_csl_styles.specs.declared.stop.Stop.{Stop}
use Rattle.cite_csl_styles.proofs.Staged.{then_goes_on, then_stops}
use Rattle.cite_csl.specs.Run.{IsMade, IsMadeIn, IsMadeOf, paths}
use Rattle.cite_csl.specs.Views.{made_view}
use Rattle.cite_csl.specs.declared.making.Made.{Made}
use Rattle.cite_csl.proofs.making.make.Goals as goal

pub returns-in_err-read_check : goal.returns-in_err-read_check
returns-in_err-read_check c =
    let read = read_at c.args.files.now in
    let a = asked_view c.args.asked.now in
    let e = c.in_err-read_check.field-0.0 in
    let is : c.from_residual.result ≡ Err e = search rules in
    subst (λ (r : Result Made Stop). Answers made_view r (IsMade read a)) (sym is)
    (then_stops e (AreRead read (paths a)) (λ _. IsMadeOf read a) c.in_err-read_check.ensures)

pub make_of-requires : goal.make_of-requires
make_of-requires c =
    let file = file_at (read_at c.args.files.now) (asked_view c.args.asked.now).style in
    subst (λ (r : Result code.Found Stop). Answers found_view r (IsCslRead file)) c.in-Ok.is c.requires

pub returns-in-Ok : goal.returns-in-Ok
returns-in-Ok c =
    let read = read_at c.args.files.now in
    let a = asked_view c.args.asked.now in
    then_goes_on made_view c.make_of.result (AreRead read (paths a)) (λ _. IsMadeOf read a) tt c.in_ok-read_check.ensures c.make_of.ensures

pub returns-in-Err : goal.returns-in-Err
returns-in-Err c =
    let read = read_at c.args.files.now in
    let a = asked_view c.args.asked.now in
    let e = c.in-Err.stop in
    let refused = subst (λ (r : Result code.Found Stop). Answers found_view r (IsCslRead (file_at read a.style))) c.in-Err.is c.requires in
    then_goes_on made_view (Err e) (AreRead read (paths a)) (λ _. IsMadeOf read a) tt c.in_ok-read_check.ensures
    (then_stops e (IsSheet read a.style) (λ (s : Sheet). IsMadeIn read a s) (then_stops e (IsCslRead (file_at read a.style)) (λ (f : Found). IsSheetOf read f f.means) refused))
