use Rattle.std.proofs.Common.{ap, ◌∙◌, Some, None}
use Rattle.std.specs.Option.{option_map}
use Rattle.rendering_page.specs.Views.{quotes_view}
use Rattle.rendering_tree.specs.Trees.{nothing, before, followed_by}
use Rattle.rendering_tree.specs.Views.{tree_view}
use Rattle.rendering_tree.specs.declared.element.ElemMeta.TheVariants as kinds
use Rattle.rendering_tree.proofs.SimplifySteps.{on_ok}
use Rattle.rendering_tree.proofs.ViewsLevels.{child_rolled}
use Rattle.driver_citations.specs.Joining.{delimited_after}
use Rattle.driver_citations.specs.Meeting.{delimiter_before}
use Rattle.driver_citations.proofs.citation.push_cite.Goals as goal

pub returns : goal.returns
returns c =
    let o = option_map (λ q. quotes_view q.now) c.args.quotes in
    let made = child_rolled (record { children = c.args.cite.tree; display = None; meta = Some (kinds.Entry c.args.cite.index) }) in
    let own = c.delimiter_before.ensures ∙ ap (delimiter_before o (tree_view c.args.cite.tree)) c.or_empty.ensures in
    let put = c.in_ok-push_delimiter.ensures ∙ ap (delimited_after o c.args.look (tree_view c.args.joined.now)) own in
    on_ok c.push.result (λ e. e ∙ (λ k. followed_by (put k) (before (made k) nothing))) c.push.ensures.ok
