use Rattle.std.proofs.Common.{◌≡◌, List, map, Result, sym, ap, subst, ◌∙◌}
use Rattle.std.proofs.lemmas.Simd.{map-map}
use Rattle.std.specs.Borrow.{Bor}
use Rattle.laws.specs.Borrowed.{borrowed}
use Rattle.literature.specs.Entries.{entries}
use Rattle.literature.specs.Views.{selector_view}
use Rattle.literature_entries.specs.EntriesData.{EntryData, entry_view}
use Rattle.literature_entries.specs.declared.entry.Entry.{Entry}
use Rattle.literature_entries.specs.contracts.entry.EntryPartialEq.TheImpl as entry
use Rattle.interop.specs.Views.{library_view}
use Rattle.rendering_entries.specs.Library.{answers_of}
use Rattle.rendering_style.specs.StyleViews.{style_view}
use Rattle.driver_requests.specs.CitedEntries.{once}
use Rattle.driver_requests.specs.Views.{entries_in}
use Rattle.driver_order.specs.Order.{entries_in_order}
use Rattle.driver_order.specs.Sorted.{request_parts, requests_in_order}
use Rattle.driver.specs.Finish.{Rendered}
use Rattle.driver.specs.RenderedViews.{rendered_view}
use Rattle.cite_requests.specs.Answers.{Gives}
use Rattle.cite_requests.specs.Stages.{Refusal}
use Rattle.cite_requests.specs.Views.{lent_works_view}
use Rattle.cite_requests.proofs.EntriesIndices.{works_listed}
use Rattle.cite_order.specs.Order.{order_of}
use Rattle.cite_order.specs.Views.{setting_view}
use Rattle.cite_order.proofs.ListedWorks.{listed_all}
use Rattle.cite_order.proofs.Stages.{by_order}
use Rattle.cite_order.proofs.order.sorted.Goals as goal

-- borrowed entries as works
lent_works : (es : List (Bor Entry)) → map entry_view (borrowed es) ≡ lent_works_view es
lent_works es = map-map entry_view (λ (b : Bor Entry). b.now) es

pub returns : goal.returns
returns c markers asked listed =
    let library = c.args.library.now in
    let works = library_view library in
    let s = setting_view c.args.setting in
    let sorting = style_view c.args.setting.sorting.now in
    let xs = map selector_view c.args.selectors.now in
    let answers = λ (e : Entry). answers_of (entry_view e) in
    let cited = c.as_slice-2.result.now in
    let order = c.as_slice-4.result.now in
    let cited_is =
    ap borrowed c.as_slice-2.ensures.value
    ∙ (c.in_ok-cited.ensures
    ∙ (λ i. entries_in_order (record (c.in_ok-request.ensures i) { style = sorting }) answers (once entry.ghosts.eq (entries_in (c.as_slice.ensures.value i))))) in
    let order_is =
    lent_works order
    ∙ (ap lent_works_view c.as_slice-4.ensures.value
    ∙ (c.in_ok-order.ensures ∙ ap (λ (ws : List EntryData). order_of sorting xs works ws) (sym (lent_works cited)))) in
    let sorted_is =
    c.in_ok-requests.ensures
    ∙ (λ i. requests_in_order entry.ghosts.eq answers sorting (borrowed ((c.as_slice-3.ensures.value ∙ sym c.as_slice-4.ensures.value) i)) (map request_parts c.args.requests.items)) in
    subst (λ (r : Result Rendered Refusal). Gives rendered_view c.finish.result r)
    (by_order s works xs c.args.requests.items c.in_ok-requests.requests.items markers (borrowed cited) (borrowed order) asked listed
    (listed_all works works (works_listed (entries library) library.distinct)) cited_is order_is sorted_is)
    c.finish.ensures
