use Rattle.std.proofs.Common.{not, ◌&&◌, ◌||◌, ap, ◌∙◌}
use Rattle.rendering_context.specs.Answering.{date_answer}
use Rattle.rendering_context.specs.Views.{context_view}
use Rattle.rendering_leaves.specs.Parts.{day_in}
use Rattle.rendering_leaves.specs.NodeSettings.{State}
use Rattle.rendering_leaves.specs.Values.{date_suffix, day_pieces, is_passed_over, prints_year, suppressing}
use Rattle.rendering_leaves.specs.Views.{setting_view}
use Rattle.rendering_leaves.proofs.DatesInside.{day-year_suffix}
use Rattle.rendering_leaves.proofs.StatesAppended.{append-page}
use Rattle.rendering_page.specs.Pieces.{append_pieces}
use Rattle.rendering_style.specs.Views.{date_node_view}
use Rattle.rendering_taxonomy.specs.declared.variable.Variable.TheVariants as variables
use Rattle.rendering_leaves.proofs.date.push_date.Goals as goal

pub returns : goal.returns
returns g c =
    let a = g.E.EntryLike.answers c.args.entry.now in
    let ctx = context_view a c.args.context.now in
    let s = setting_view c.args.setting.now in
    let d = date_node_view c.args.node.now in
    let st = c.args.state.now in
    let suppressed = c.deref.ensures.value ∙ ap (λ (x : State). x.suppressed) c.state.view_is in
    let had = ap (λ (x : State). x.has_date) c.state.view_is in
    let passed = c.is_passed_over-is_passed_over.ensures a ∙ ap (λ (x : State). x.is_published && not (prints_year ctx d)) c.state.view_is in
    let is_later = is_passed_over ctx d st || st.has_date in
    let year_suffix = c.date_suffix-year_suffix.ensures a ∙ (λ i. date_suffix ctx (passed i || had i)) in
    let day = c.date-day.ensures ∙ (λ i. date_answer ctx (suppressed i) d.variable) in
    let page = c.in_ok-append_answer.ensures a
    ∙ (λ i. append_pieces ctx.quotes (day_in ctx s d (year_suffix i) (day i)) c.state.inside.page)
    ∙ (λ i. append_pieces ctx.quotes (day-year_suffix ctx s d is_later (date_answer ctx st.suppressed d.variable) i) c.state.inside.page) in
    let after = c.state-2.view_is
    ∙ c.in_ok-suppress_in_substitute.ensures
    ∙ ap (suppressing s (variables.Date d.variable)) (append-page ctx (day_pieces ctx s is_later d (date_answer ctx st.suppressed d.variable)) st _ _ c.state.view_is page) in
    let has_date = c.has_date_after-state-inside.ensures ∙ (λ i. not (passed i) || had i) in
    λ i. record (after i) { has_date = has_date i }
