use Rattle.std.proofs.Common.{◌≡◌, false, List, map, Result, sym, ap, subst, ◌∙◌}
use Rattle.std.proofs.lemmas.Simd.{map-map}
use Rattle.std.specs.Borrow.{Bor}
use Rattle.laws.specs.Borrowed.{borrowed}
use Rattle.literature.specs.Entries.{entries}
use Rattle.literature.specs.Views.{selector_view}
use Rattle.literature_entries.specs.EntriesData.{EntryData, entry_view}
use Rattle.literature_entries.specs.declared.entry.Entry.{Entry}
use Rattle.interop.specs.Views.{library_view}
use Rattle.driver.specs.Finish.{Rendered}
use Rattle.driver.specs.RenderedViews.{rendered_view}
use Rattle.cite_requests.specs.Answers.{Gives}
use Rattle.cite_requests.specs.Requests.{works_in}
use Rattle.cite_requests.specs.Sections.{chosen}
use Rattle.cite_requests.specs.Stages.{Refusal}
use Rattle.cite_requests.specs.Views.{lent_works_view}
use Rattle.cite_requests.proofs.EntriesIndices.{AreListedWorks, works_listed}
use Rattle.cite.proofs.RenderedStages.{finishes}
use Rattle.cite_order.specs.Listed.{AreListed}
use Rattle.cite_order.specs.Order.{has_keys, stage_by_order}
use Rattle.cite_order.specs.Views.{setting_view}
use Rattle.cite_order.proofs.Stages.{keyless, markers_for, with_keys}
use Rattle.cite_order.proofs.order.rendered_in_order.Goals as goal

pub returns-then-has_keys : goal.returns-then-has_keys
returns-then-has_keys c works sections pieces same asked parsed =
    let s = setting_view c.args.setting in
    let found = markers_for works s.context pieces c.args.requests.items asked in
    let xs = map selector_view c.args.selectors.now in
    let keys = sym c.has_keys.ensures ∙ c.if-has_keys.true in
    subst (λ (r : Result Rendered Refusal). Gives rendered_view c.sorted.result r)
    (ap (λ (ws : List EntryData). stage_by_order s xs ws found.0) (sym same) ∙ with_keys works s sections pieces found.0 xs found.1 parsed keys)
    (c.sorted.ensures found.0 found.2 (subst (λ (ws : List EntryData). AreListed ws (works_in found.0)) same found.3))

pub returns : goal.returns
returns c works sections pieces same asked parsed =
    let library = c.args.library.now in
    let s = setting_view c.args.setting in
    let xs = map selector_view c.args.selectors.now in
    let slice = c.as_slice.result.now in
    let none : has_keys s.sorting ≡ false = sym c.has_keys.ensures ∙ c.if-has_keys.false in
    let wanted : map entry_view (borrowed slice) ≡ chosen xs works.library =
    map-map entry_view (λ (b : Bor Entry). b.now) slice ∙ (ap lent_works_view c.as_slice.ensures.value ∙ (c.in_ok-chosen.ensures ∙ ap (chosen xs) (sym same))) in
    let listed = subst (λ (ws : List EntryData). AreListedWorks ws ws) (sym same) (works_listed (entries library) library.distinct) in
    subst (λ (r : Result Rendered Refusal). Gives rendered_view c.finish.result r)
    (finishes works s.context sections pieces c.args.requests.items xs (borrowed slice) asked parsed wanted listed ∙ sym (keyless works s sections pieces none))
    c.finish.ensures
