use Rattle.std.proofs.Common.{◌≡◌, [], ◌∷◌, ◌++◌, map, drop}
use Rattle.driver_blocks.specs.Views.{blocks_view, gathered_view}
use Rattle.driver_blocks.proofs.blocks.each_alone.Given as goal

abbrev pub invariant-loop-cite : goal.invariant-loop-cite
invariant-loop-cite l = blocks_view l.blocks.items ++ map (λ x. x ∷ []) (map gathered_view (drop l.cite-index l.cites)) ≡ map (λ x. x ∷ []) (map gathered_view l.cites)
