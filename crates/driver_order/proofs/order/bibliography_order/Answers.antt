use Rattle.std.proofs.Common.{◌≡◌, List, Option, ap, subst₂, ◌∙◌, IfOk}
use Rattle.std.specs.Prelude.{ℕ}
use Rattle.std.specs.Option.{option_map}
use Rattle.laws.specs.Borrowed.{borrowed}
use Rattle.rendering.specs.Views.{style_context_view}
use Rattle.rendering_context.specs.Contexts.{StyleContext}
use Rattle.rendering_locale.specs.CodeViews.{code_view}
use Rattle.rendering_style.specs.StyleViews.{style_view}
use Rattle.driver_order.specs.Order.{entries_in_order, sorting_context}
use Rattle.driver_order.proofs.LocalesSeen.{code_seen}
use Rattle.driver_order.proofs.order.bibliography_order.Goals as goal

pub returns : goal.returns
returns g c =
    let wanted : StyleContext = sorting_context (style_view c.args.sorting.now) c.args.request.now in
    let same : style_context_view c.in_ok-context.context ≡ wanted =
    c.in_ok-context.ensures
    ∙ ap (λ (l : Option (List ℕ)). record wanted { locale = l }) (code_seen c.as_ref-locale.result ∙ ap (option_map code_view) c.as_ref-locale.ensures.value) in
    subst₂ (λ (x : StyleContext) (es : List g.row.T.Denot). IfOk c.sorted_entries.result (λ v. borrowed v.items ≡ entries_in_order x g.T.EntryLike.answers es))
    same (c.entries.ensures ∙ c.in_ok-cited.ensures.entries) c.sorted_entries.ensures
