use Rattle.std.proofs.Common.{ap, ◌∙◌}
use Rattle.std.specs.Str.{chars}
use Rattle.std.specs.Option.{option_map}
use Rattle.rendering_page.specs.Views.{quotes_view}
use Rattle.rendering_style.specs.Views.{layout_view}
use Rattle.rendering_tree.specs.Views.{tree_view}
use Rattle.driver_citations.specs.Citations.{followed_by_text}
use Rattle.driver_citations.proofs.JoiningSteps.{affixed_is}
use Rattle.driver_citations.proofs.citation.affixed.Goals as goal

pub returns : goal.returns
returns c =
    let look = c.citation_look-look.result in
    affixed_is (option_map (λ q. quotes_view q.now) c.args.quotes) (layout_view c.args.layout.now) look (chars c.text_or_empty.result.now) (chars c.text_or_empty-2.result.now) (tree_view c.args.inside) (tree_view c.push_own.new.parts) (tree_view c.append.new.parts) (tree_view c.in_ok-simple.simple)
    c.put_suffix.result c.citation_look-look.ensures c.text_or_empty.ensures c.text_or_empty-2.ensures
    (c.in_ok-push_own.ensures ∙ ap (followed_by_text look (chars c.text_or_empty.result.now)) c.new-parts.ensures) c.in_ok-append.ensures c.in_ok-simple.ensures c.put_suffix.ensures
