use Rattle.std.proofs.Common.{◌≡◌, List, Option, map, ap, subst, ◌∙◌, IfOk}
use Rattle.std.specs.Prelude.{ℕ}
use Rattle.std.specs.Option.{option_map}
use Rattle.rendering_locale.specs.CodeViews.{code_view}
use Rattle.driver_order.proofs.LocalesSeen.{code_seen}
use Rattle.laws.specs.Borrowed.{borrowed}
use Rattle.rendering.specs.Views.{style_context_view}
use Rattle.rendering_context.specs.Contexts.{StyleContext}
use Rattle.rendering_style.specs.StyleViews.{style_view}
use Rattle.driver_requests.specs.Views.{context_of, parts_of}
use Rattle.driver_order.specs.Keyed.{number_by}
use Rattle.driver_order.specs.Sorted.{items_in_order}
use Rattle.driver_order.proofs.cites.items_in.Goals as goal

pub returns : goal.returns
returns g c =
    let number = number_by g.T.PartialEq.eq (borrowed c.args.numbers.now.cited.now.entries.items) c.args.numbers.now.numbers.now in
    let same : style_context_view c.in_ok-context.context ≡ record (context_of c.args.request.now) { style = style_view c.args.sorting.now } =
    c.in_ok-context.ensures
    ∙ ap (λ (l : Option (List ℕ)). record (context_of c.args.request.now) { style = style_view c.args.sorting.now; locale = l }) (code_seen c.as_ref-locale.result ∙ ap (option_map code_view) c.as_ref-locale.ensures.value) in
    subst (λ (x : StyleContext). IfOk c.sorted_items.result (λ v. map parts_of v.items ≡ items_in_order x g.T.EntryLike.answers number (map parts_of c.args.items.items))) same c.sorted_items.ensures
