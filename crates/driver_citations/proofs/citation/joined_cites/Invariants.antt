use Rattle.std.proofs.Common.{◌≡◌, fold, length, map}
use Rattle.std.specs.Option.{option_map}
use Rattle.std.specs.Vec.Iter.{into_iter_items, into_iter_len}
use Rattle.rendering_page.specs.Views.{quotes_view}
use Rattle.rendering_tree.specs.Views.{tree_view}
use Rattle.driver_citations.specs.Joining.{put_cites, put_shown, shown_view}
use Rattle.driver_citations.proofs.citation.joined_cites.Given as goal

abbrev pub invariant-loop-cite : goal.invariant-loop-cite
invariant-loop-cite l = record {
  same : fold (put_shown (option_map (λ q. quotes_view q.now) l.quotes) l.look) (tree_view l.joined) (map shown_view (into_iter_items l.cite-iterator)) ≡ put_cites (option_map (λ q. quotes_view q.now) l.quotes) l.look (map shown_view l.fn.cites.items);
  long : into_iter_len l.cite-iterator ≡ length (into_iter_items l.cite-iterator);
}
