use Rattle.std.proofs.Common.{◌≡◌, ℕ, List, map, Result, Ok, Err, string_bytes, rules, sym, ap, ◌∙◌, subst}
use Rattle.std.specs.Borrow.{Bor}
use Rattle.laws.specs.Borrowed.{borrowed}
use Rattle.programs.specs.Files.{read_at}
use Rattle.rendering_style.specs.declared.style.Style.{Style}
use Rattle.cite_order.specs.Order.{Setting}
use Rattle.rendering_locale.specs.Locales.{Locale}
use Rattle.rendering_locale.specs.Views.{locale_view}
use Rattle.cite_output.specs.Pieces.{output_of}
use Rattle.cite_csl_command.specs.Views.{asked_view}
use Rattle.cite_csl_styles.specs.Answers.{Answers, IsStop}
use Rattle.cite_csl_styles.specs.Sheets.{AreLocales}
use Rattle.cite_csl_styles.specs.Sources.{SourceFile, files_at}
use Rattle.cite_csl_styles.specs.Stages.{Gives, Then}
use Rattle.cite_csl_styles.specs.Views.{sheet_view, sources_view}
use Rattle.cite_csl_styles.specs.declared.stop.Stop.{Stop}
use Rattle.cite_csl_styles.proofs.Staged.{then_goes_on, then_stops}
use Rattle.cite_csl.specs.Run.{IsOutput, IsOutputIn, made, setting_in, told_of}
use Rattle.cite_csl.specs.Views.{made_view}
use Rattle.cite_csl.specs.declared.making.Made.{Made}
use Rattle.cite_order.specs.Views.{setting_view}
use Rattle.cite_csl.proofs.making.output_in.Goals as goal

pub returns-in_err-locales : goal.returns-in_err-locales
returns-in_err-locales c =
    let read = read_at c.args.files.now in
    let a = asked_view c.args.asked.now in
    let s = sheet_view c.args.sheet.now in
    let e = c.in_err-locales.field-0.0 in
    let are : sources_view c.as_slice-2.result.now ≡ files_at read a.locales =
    ap sources_view c.as_slice-2.ensures.value ∙ (c.in_ok-locale_files.ensures ∙ ap (λ (paths : List (Bor (List ℕ))). files_at read (borrowed paths)) c.as_slice.ensures.value) in
    let is : c.from_residual-in_err-locales.result ≡ Err e = search rules in
    subst (λ (r : Result Made Stop). Answers made_view r (IsOutput read a s)) (sym is)
    (then_stops e (AreLocales s.words (files_at read a.locales)) (λ (locales : List Locale). Then (IsOutputIn read a (setting_in a s locales)) (λ (output : List ℕ). Gives (Ok (made a s locales output))))
    (subst (λ (fs : List SourceFile). IsStop e (AreLocales s.words fs)) are c.in_err-locales.ensures))

pub returns-in_err-output : goal.returns-in_err-output
returns-in_err-output c =
    let read = read_at c.args.files.now in
    let a = asked_view c.args.asked.now in
    let s = sheet_view c.args.sheet.now in
    let locales = map locale_view c.in_ok-locales.locales.items in
    let e = c.in_err-output.field-0.0 in
    let are : sources_view c.as_slice-2.result.now ≡ files_at read a.locales =
    ap sources_view c.as_slice-2.ensures.value ∙ (c.in_ok-locale_files.ensures ∙ ap (λ (paths : List (Bor (List ℕ))). files_at read (borrowed paths)) c.as_slice.ensures.value) in
    let style : Style → Bor Style = λ x. record { ref_ptr = (0, 0); now = x } in
    let setting : setting_view (record { style = style c.args.sheet.now.style; sorting = style c.args.sheet.now.sorting; lang = c.lang_of.result; locales = c.as_slice-3.result }) ≡ setting_in a s locales =
    λ i. record { context = record { style = s.style; locale = c.lang_of.ensures i; locale_files = map locale_view (c.as_slice-3.ensures.value i) }; sorting = c.requires.sorting i } in
    let is : c.from_residual-in_err-output.result ≡ Err e = search rules in
    subst (λ (r : Result Made Stop). Answers made_view r (IsOutput read a s)) (sym is)
    (then_goes_on made_view (Err e) (AreLocales s.words (files_at read a.locales)) (λ (all : List Locale). Then (IsOutputIn read a (setting_in a s all)) (λ (output : List ℕ). Gives (Ok (made a s all output)))) locales
    (subst (λ (fs : List SourceFile). AreLocales s.words fs (Ok locales)) are c.in_ok-locales.ensures)
    (then_stops e (IsOutputIn read a (setting_in a s locales)) (λ (output : List ℕ). Gives (Ok (made a s locales output)))
    (subst (λ (x : Setting). IsStop e (IsOutputIn read a x)) setting c.in_err-output.ensures)))

pub returns : goal.returns
returns c =
    let read = read_at c.args.files.now in
    let a = asked_view c.args.asked.now in
    let s = sheet_view c.args.sheet.now in
    let locales = map locale_view c.in_ok-locales.locales.items in
    let are : sources_view c.as_slice-2.result.now ≡ files_at read a.locales =
    ap sources_view c.as_slice-2.ensures.value ∙ (c.in_ok-locale_files.ensures ∙ ap (λ (paths : List (Bor (List ℕ))). files_at read (borrowed paths)) c.as_slice.ensures.value) in
    let style : Style → Bor Style = λ x. record { ref_ptr = (0, 0); now = x } in
    let setting : setting_view (record { style = style c.args.sheet.now.style; sorting = style c.args.sheet.now.sorting; lang = c.lang_of.result; locales = c.as_slice-3.result }) ≡ setting_in a s locales =
    λ i. record { context = record { style = s.style; locale = c.lang_of.ensures i; locale_files = map locale_view (c.as_slice-3.ensures.value i) }; sorting = c.requires.sorting i } in
    let output = output_of c.in_ok-output.output in
    let told : string_bytes c.in_ok-told.told ≡ told_of a s locales = c.in_ok-told.ensures ∙ ap (λ (ls : List Locale). told_of a s ls) (ap (map locale_view) c.as_slice-4.ensures.value) in
    let are_locales = subst (λ (fs : List SourceFile). AreLocales s.words fs (Ok locales)) are c.in_ok-locales.ensures in
    let is_output = subst (λ (x : Setting). IsOutputIn read a x (Ok output)) setting c.in_ok-output.ensures in
    (Ok locales, are_locales, (Ok output, is_output, λ i. Ok (record { output = output; told = told i })))
