use Rattle.std.proofs.Common.{◌≡◌, [], length, map, sym, ap, ◌∙◌, eqb-true}
use Rattle.std.proofs.lemmas.List.{nil_from_length}
use Rattle.laws.specs.Borrowed.{borrowed}
use Rattle.rendering_style.specs.StyleViews.{style_view}
use Rattle.rendering_style.specs.Views.{sort_key_view}
use Rattle.driver_order.specs.Sorted.{request_parts}
use Rattle.driver_order.proofs.RequestsSorted.{requests_stay}
use Rattle.driver_requests.specs.CitedEntries.{once}
use Rattle.driver_requests.specs.Views.{entries_in}
use Rattle.driver_order.proofs.RequestsNumbered.{sorted_by_found}
use Rattle.driver_order.proofs.requests.sorted_requests.Goals as goal

pub returns-then-is_empty : goal.returns-then-is_empty
returns-then-is_empty g c =
    let keys = c.keys_of.result.now in
    let none : keys ≡ [] = nil_from_length keys (eqb-true (length keys) 0 (sym c.is_empty.ensures ∙ c.if-is_empty.true)) in
    sym
    (requests_stay g.T.PartialEq.eq g.T.EntryLike.answers (style_view c.args.sorting.now) (borrowed c.args.order.now) (map request_parts c.args.requests.items)
    (sym c.keys_of.ensures ∙ ap (map sort_key_view) none))

pub returns : goal.returns
returns g c =
    let eq = g.T.PartialEq.eq in
    sorted_by_found eq g.T.EntryLike.answers (style_view c.args.sorting.now) (borrowed c.args.order.now) c.args.requests.items (borrowed c.in_ok-cited.cited.entries.items) c.as_slice-2.result.now
    (c.in_ok-cited.ensures.entries ∙ ap (λ rs. once eq (entries_in rs)) c.as_slice.ensures.value) (c.as_slice-2.ensures.value ∙ c.in_ok-numbers.ensures) c.sorted_each.result c.sorted_each.ensures
