use Rattle.std.proofs.Common.{◌≡◌, length, map}
use Rattle.xml_text.specs.Views.{placed_view, token_view}
use Rattle.xml_schema.specs.Placing.{after_place}
use Rattle.xml_schema.proofs.placing.after_place.Given as goal

abbrev pub invariant-loop-rest : goal.invariant-loop-rest
invariant-loop-rest l = after_place l.left (map (placed_view token_view) l.rest) ≡ after_place l.left (map (placed_view token_view) l.tokens)

abbrev pub decreases-loop-rest : goal.decreases-loop-rest
decreases-loop-rest l = length l.rest
