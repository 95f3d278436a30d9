use Rattle.std.proofs.Common.{List, sym, ap, ◌∙◌}
use Rattle.std.proofs.lemmas.Result.{on_ok_weaker}
use Rattle.std.specs.Str.{chars}
use Rattle.rendering_context.specs.Views.{context_view}
use Rattle.rendering_dates.specs.Dates.{date_pieces}
use Rattle.rendering_leaves.specs.Values.{date_manner}
use Rattle.rendering_leaves.proofs.DatesInside.{inside-parts}
use Rattle.rendering_page.specs.Pieces.{Piece, append_pieces}
use Rattle.rendering_page.specs.Views.{manner_view, quotes_view}
use Rattle.rendering_style.specs.Views.{date_node_view}
use Rattle.rendering_leaves.proofs.date.append_date_parts.Goals as goal

pub returns-in_default : goal.returns-in_default
returns-in_default c = λ a.
    let style = c.date_style.ensures in
    let manner = style.manner ∙ c.date_manner-manner.ensures in
    let year_suffix = chars c.args.year_suffix.now in
    let d = date_node_view c.args.node.now in
    on_ok_weaker c.push_date.result
    (λ e. e
    ∙ (λ i. append_pieces (quotes_view (style.quotes i)) (date_pieces (style.locales i) (manner i) (style.shape a i) year_suffix c.args.day.now) c.args.page.now)
    ∙ ap (λ (ps : List Piece). append_pieces (quotes_view c.args.context.now.quotes.now) ps c.args.page.now)
    (sym (inside-parts (context_view a c.args.context.now) (date_manner (manner_view c.args.setting.now.manner) d) c.args.setting.now.form d year_suffix c.args.day.now c.in_default.not-SuffixOnly)))
    c.push_date.ensures
