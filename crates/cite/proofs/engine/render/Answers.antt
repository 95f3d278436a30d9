use Rattle.std.proofs.Common.{◌≡◌, List, [], ◌∷◌, map, refl, Result, Err, rules, sym, ap, subst, ◌∙◌}
use Rattle.laws.proofs.Results.{ok_is}
use Rattle.laws.specs.Text.{spelled}
use Rattle.literature.specs.Entries.{entries}
use Rattle.std.specs.Borrow.{Bor}
use Rattle.laws.specs.Borrowed.{borrowed}
use Rattle.interop.specs.Views.{library_view}
use Rattle.literature_entries.specs.EntriesData.{EntryData, entry_view}
use Rattle.literature_entries.specs.declared.entry.Entry.{Entry}
use Rattle.driver.specs.Finish as finish
use Rattle.literature.specs.Views.{selector_view}
use Rattle.rendering_locale.specs.Views.{locale_view}
use Rattle.rendering_style.specs.StyleViews.{style_view}
use Rattle.driver.specs.RenderedViews.{rendered_view}
use Rattle.driver.specs.declared.rendered.Rendered.{Rendered}
use Rattle.cite_markers.specs.Views.{document_view}
use Rattle.cite_requests.specs.Answers.{Gives}
use Rattle.cite_requests.specs.Asked.{asked_request_view}
use Rattle.cite_requests.specs.Cited.{library_needed}
use Rattle.cite_requests.specs.Requests.{context_of}
use Rattle.cite.specs.Verdict.{rendered_stage}
use Rattle.cite_requests.specs.Sections.{chosen}
use Rattle.cite_requests.specs.Stages.{Refusal}
use Rattle.cite_requests.specs.Views.{lent_works_view, file_view, file_works_with, file_works}
use Rattle.cite_requests.specs.declared.error.CiteError.{CiteError}
use Rattle.cite_requests.proofs.AnswersWeaker.{no_refusal, refused_weaker}
use Rattle.cite.proofs.NeededWorks.{rendered_with}
use Rattle.cite.proofs.RenderedStages.{finishes, names_stop, sections_stop}
use Rattle.cite_requests.proofs.EntriesIndices.{works_listed}
use Rattle.cite.proofs.engine.render.Goals as goal

pub returns-in_err-library : goal.returns-in_err-library
returns-in_err-library c =
    let x = context_of (style_view c.args.style.now) (locale_view c.args.locale.now) in
    let all = rendered_stage (file_works c.args.bib_file) x (map spelled c.args.sections.now) (document_view c.args.document.now) in
    let is : c.from_residual.result ≡ Err c.in_err-library.field-0.0 = search rules in
    subst (λ (r : Result Rendered CiteError). Gives rendered_view r all) (sym is)
    (no_refusal c.in_err-library.field-0.0 (library_needed (file_view c.args.bib_file) (map spelled c.args.sections.now) (document_view c.args.document.now)) (λ a. all ≡ a) c.in_err-library.ensures)

pub returns-in_err-requests : goal.returns-in_err-requests
returns-in_err-requests c =
    let file = file_view c.args.bib_file in
    let sections = map spelled c.args.sections.now in
    let pieces = document_view c.args.document.now in
    let library = library_view c.in_ok-library.library in
    let x = context_of (style_view c.args.style.now) (locale_view c.args.locale.now) in
    let all = rendered_stage (file_works c.args.bib_file) x sections pieces in
    let same = rendered_with file library x sections pieces (ok_is {F = Refusal} (library_needed file sections pieces) library c.in_ok-library.ensures) in
    let is : c.from_residual-in_err-requests.result ≡ Err c.in_err-requests.field-0.0 = search rules in
    subst (λ (r : Result Rendered CiteError). Gives rendered_view r all) (sym is)
    (refused_weaker c.in_err-requests.field-0.0 _ (λ a. all ≡ a)
    (λ r h. sym same ∙ names_stop (file_works_with c.args.bib_file c.in_ok-library.library) x sections pieces r h) c.in_err-requests.ensures)

pub returns-in_err-selectors : goal.returns-in_err-selectors
returns-in_err-selectors c =
    let file = file_view c.args.bib_file in
    let sections = map spelled c.args.sections.now in
    let pieces = document_view c.args.document.now in
    let library = library_view c.in_ok-library.library in
    let x = context_of (style_view c.args.style.now) (locale_view c.args.locale.now) in
    let all = rendered_stage (file_works c.args.bib_file) x sections pieces in
    let same = rendered_with file library x sections pieces (ok_is {F = Refusal} (library_needed file sections pieces) library c.in_ok-library.ensures) in
    let is : c.from_residual-in_err-selectors.result ≡ Err c.in_err-selectors.field-0.0 = search rules in
    subst (λ (r : Result Rendered CiteError). Gives rendered_view r all) (sym is)
    (refused_weaker c.in_err-selectors.field-0.0 _ (λ a. all ≡ a)
    (λ r h. sym same ∙ sections_stop (file_works_with c.args.bib_file c.in_ok-library.library) x sections pieces (map asked_request_view c.in_ok-requests.requests.items) r c.in_ok-requests.ensures h)
    c.in_err-selectors.ensures)

lent_whole : (es : List (Bor Entry)) → map entry_view (borrowed es) ≡ lent_works_view es
lent_whole [] = refl
lent_whole (e ∷ es) = ap (λ (ws : List EntryData). entry_view e.now ∷ ws) (lent_whole es)

pub returns : goal.returns
returns c =
    let file = file_view c.args.bib_file in
    let sections = map spelled c.args.sections.now in
    let pieces = document_view c.args.document.now in
    let library = c.in_ok-library.library in
    let x = context_of (style_view c.args.style.now) (locale_view c.args.locale.now) in
    let same = rendered_with file (library_view library) x sections pieces (ok_is {F = Refusal} (library_needed file sections pieces) (library_view library) c.in_ok-library.ensures) in
    let xs = map selector_view c.in_ok-selectors.selectors.items in
    let slice = c.deref-2.result.now in
    let wanted : map entry_view (borrowed slice) ≡ chosen xs (library_view library) =
    lent_whole slice ∙ ap lent_works_view c.deref-2.ensures.value ∙ c.in_ok-chosen.ensures ∙ (λ i. chosen (map selector_view (c.deref.ensures.value i)) (library_view library)) in
    subst (λ (r : Result finish.Rendered Refusal). Gives rendered_view c.finish-rendered.result r)
    (finishes (file_works_with c.args.bib_file library) x sections pieces c.in_ok-requests.requests.items xs (borrowed slice) c.in_ok-requests.ensures c.in_ok-selectors.ensures wanted (works_listed (entries library) library.distinct) ∙ same)
    c.finish-rendered.ensures
