use Rattle.reference_graph.proofs.SearchVectors.{begun_is}
use Rattle.reference_graph.proofs.search.Search.new.Goals as goal

pub returns : goal.returns
returns c =
    begun_is c.args.references.now _ _ _ _ _ _ _ (c.in_ok-vec.ensures.items_if_clones_equal (λ y e. e)) c.in_ok-lengths.ensures c.new.ensures.items c.new-2.ensures.items c.new-3.ensures.items c.new-4.ensures.items (c.in_ok-vec-2.ensures.items_if_clones_equal (λ y e. e))
