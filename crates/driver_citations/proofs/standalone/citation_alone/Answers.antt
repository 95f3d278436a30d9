use Rattle.std.proofs.Common.{map, rules, ap, ◌∙◌}
use Rattle.std.specs.Option.{option_map}
use Rattle.rendering.specs.Words.{joining_quotes}
use Rattle.rendering_page.specs.Views.{quotes_view}
use Rattle.rendering_style.specs.Views.{layout_view}
use Rattle.rendering_tree.specs.Views.{tree_view}
use Rattle.driver_requests.specs.Views.{context_of, item_view}
use Rattle.driver_citations.specs.Standalone.{all_alone}
use Rattle.driver_citations.proofs.StandaloneSteps.{alone_is}
use Rattle.driver_citations.proofs.standalone.citation_alone.Goals as goal

pub returns : goal.returns
returns g c =
    let same = c.in_ok-context.ensures in
    let items = ap (map (item_view (λ e. 0) g.T.EntryLike.answers)) c.as_slice.ensures.value in
    alone_is (option_map (λ q. quotes_view q.now) c.joining_quotes.result) (joining_quotes (context_of c.args.request.now)) (layout_view c.parts.result.now.citation.layout) (context_of c.args.request.now).style.citation.layout (map tree_view c.in_ok-trees.trees.items) _ c.joined_alone.result
    (c.joining_quotes.ensures ∙ ap joining_quotes same)
    (search rules)
    (c.in_ok-trees.ensures ∙ (λ k. all_alone (same k) (items k)))
    c.joined_alone.ensures
