use Rattle.std.proofs.Common.{map}
use Rattle.std.specs.Option.{option_map}
use Rattle.rendering_page.specs.Views.{quotes_view}
use Rattle.rendering_style.specs.Views.{layout_view}
use Rattle.rendering_tree.specs.Views.{tree_view}
use Rattle.driver_citations.specs.Joining.{shown_view}
use Rattle.driver_citations.proofs.JoiningSteps.{citation_is}
use Rattle.driver_citations.proofs.citation.citation_of.Goals as goal

pub returns : goal.returns
returns c =
    citation_is (option_map (λ q. quotes_view q.now) c.args.quotes) (layout_view c.args.layout.now) c.args.some_purpose c.citation_look.result (map shown_view c.args.cites.items) (tree_view c.in_ok-joined.joined) c.finished.result c.citation_look.ensures c.in_ok-joined.ensures
    c.finished.ensures
