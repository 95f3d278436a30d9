use Rattle.std.proofs.Common.{◌∷◌, List, map, sym, ap, ◌∙◌}
use Rattle.driver_blocks.specs.Views.{gathered_view}
use Rattle.driver_blocks.specs.declared.cite.Gathered.{Gathered}
use Rattle.driver_blocks.proofs.Alone.{none_is}
use Rattle.driver_blocks.proofs.arranging.first_alone.Goals as goal

pub returns-then-is_empty : goal.returns-then-is_empty
returns-then-is_empty c =
    ap (map gathered_view) (c.requires ∙ ap (λ (gs : List Gathered). c.args.first.now ∷ gs) (none_is c.args.others.now (sym c.is_empty.ensures ∙ c.if-is_empty.true)))
