use Rattle.std.proofs.Common.{◌≡◌, List, map, Result, Ok, Err, rules, sym, ap, subst, ◌∙◌}
use Rattle.laws.specs.Text.{spelled}
use Rattle.interop.specs.Views.{library_view}
use Rattle.driver.specs.Finish as finish
use Rattle.driver.specs.RenderedViews.{rendered_view}
use Rattle.driver.specs.declared.rendered.Rendered.{Rendered}
use Rattle.cite_markers.specs.Views.{document_view}
use Rattle.cite_requests.specs.Answers.{Gives}
use Rattle.literature.specs.Views.{selector_view}
use Rattle.literature.specs.declared.selector.Selector.{Selector}
use Rattle.cite_requests.specs.Stages.{Refusal, section_stage}
use Rattle.cite_requests.specs.declared.error.CiteError.{CiteError}
use Rattle.cite_requests.proofs.AnswersWeaker.{refused_weaker}
use Rattle.cite_order.specs.Order.{rendered_in_order}
use Rattle.cite_order.specs.Views.{setting_view}
use Rattle.cite_order.proofs.NeededWorks.{ordered_with}
use Rattle.cite_order.proofs.Stages.{names_stop, sections_stop}
use Rattle.cite_csl.specs.Views.{cited_view, works_view}
use Rattle.cite_csl.proofs.engine.render_by.Goals as goal

pub returns-in_err-requests : goal.returns-in_err-requests
returns-in_err-requests c =
    let file = (works_view c.args.works.entries.now).file in
    let sections = map spelled c.args.sections.now in
    let pieces = document_view c.args.document.now in
    let s = setting_view c.args.setting in
    let all = rendered_in_order (works_view c.args.works.entries.now) s sections pieces in
    let same = ordered_with file (library_view c.args.works.library.now) s sections pieces (sym c.requires) in
    let is : c.from_residual.result ≡ Err c.in_err-requests.field-0.0 = search rules in
    subst (λ (r : Result Rendered CiteError). Gives rendered_view r all) (sym is)
    (refused_weaker c.in_err-requests.field-0.0 _ (λ a. all ≡ a)
    (λ r h. sym same ∙ names_stop (cited_view c.args.works) s sections pieces r h) c.in_err-requests.ensures)

pub returns-in_err-selectors : goal.returns-in_err-selectors
returns-in_err-selectors c =
    let file = (works_view c.args.works.entries.now).file in
    let sections = map spelled c.args.sections.now in
    let pieces = document_view c.args.document.now in
    let s = setting_view c.args.setting in
    let all = rendered_in_order (works_view c.args.works.entries.now) s sections pieces in
    let same = ordered_with file (library_view c.args.works.library.now) s sections pieces (sym c.requires) in
    let is : c.from_residual-in_err-selectors.result ≡ Err c.in_err-selectors.field-0.0 = search rules in
    subst (λ (r : Result Rendered CiteError). Gives rendered_view r all) (sym is)
    (refused_weaker c.in_err-selectors.field-0.0 _ (λ a. all ≡ a)
    (λ r h. sym same ∙ sections_stop (cited_view c.args.works) s sections pieces c.in_ok-requests.requests.items r c.in_ok-requests.ensures h)
    c.in_err-selectors.ensures)

pub returns : goal.returns
returns c =
    let file = (works_view c.args.works.entries.now).file in
    let sections = map spelled c.args.sections.now in
    let pieces = document_view c.args.document.now in
    let s = setting_view c.args.setting in
    let same = ordered_with file (library_view c.args.works.library.now) s sections pieces (sym c.requires) in
    let parsed = subst (λ (xs : List Selector). section_stage sections ≡ Ok (map selector_view xs)) (sym c.deref.ensures.value) c.in_ok-selectors.ensures in
    subst (λ (r : Result finish.Rendered Refusal). Gives rendered_view c.rendered_in_order.result r) same
    (c.rendered_in_order.ensures (cited_view c.args.works) sections pieces (λ i. library_view c.args.works.library.now) c.in_ok-requests.ensures parsed)
