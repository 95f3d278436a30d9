use Rattle.std.proofs.Common.{◌≡◌, Result, Ok, Err, rules, sym, subst}
use Rattle.programs.specs.Files.{read_at}
use Rattle.cite_csl_command.specs.Views.{asked_view}
use Rattle.cite_csl_styles.specs.Answers.{Answers}
use Rattle.cite_csl_styles.specs.Sheets.{Found, Sheet, IsCslRead, IsSheet, IsSheetOf}
use Rattle.cite_csl_styles.specs.Sources.{file_at}
use Rattle.cite_csl_styles.specs.Views.{found_view, sheet_view}
use Rattle.cite_csl_styles.specs.declared.stop.Stop.{Stop}
use Rattle.cite_csl_styles.proofs.Staged.{then_goes_on, then_stops}
use Rattle.cite_csl.specs.Run.{IsMadeIn, IsMadeOf}
use Rattle.cite_csl.specs.Views.{made_view}
use Rattle.cite_csl.specs.declared.making.Made.{Made}
use Rattle.cite_csl.proofs.making.make_of.Goals as goal

pub sheet_in-requires : goal.sheet_in-requires
sheet_in-requires c = c.requires.1

pub returns-in_err-sheet : goal.returns-in_err-sheet
returns-in_err-sheet c =
    let read = read_at c.args.files.now in
    let a = asked_view c.args.asked.now in
    let e = c.in_err-sheet.field-0.0 in
    let is : c.from_residual.result ≡ Err e = search rules in
    subst (λ (r : Result Made Stop). Answers made_view r (IsMadeOf read a)) (sym is)
    (then_stops e (IsSheet read a.style) (λ (s : Sheet). IsMadeIn read a s)
    (then_goes_on sheet_view (Err e) (IsCslRead (file_at read a.style)) (λ (f : Found). IsSheetOf read f f.means) (found_view c.args.found) c.requires c.in_err-sheet.ensures.sheet))

pub returns : goal.returns
returns c =
    let read = read_at c.args.files.now in
    let a = asked_view c.args.asked.now in
    let sheet = sheet_view c.in_ok-sheet.sheet in
    let is_sheet : IsSheet read a.style (Ok sheet) =
    then_goes_on sheet_view (Ok c.in_ok-sheet.sheet) (IsCslRead (file_at read a.style)) (λ (f : Found). IsSheetOf read f f.means) (found_view c.args.found) c.requires c.in_ok-sheet.ensures.sheet in
    then_goes_on made_view c.make_in.result (IsSheet read a.style) (λ (s : Sheet). IsMadeIn read a s) sheet is_sheet c.make_in.ensures
