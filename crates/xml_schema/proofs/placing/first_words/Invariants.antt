use Rattle.std.proofs.Common.{◌≡◌, ◌+◌, ◌≤◌, drop, map}
use Rattle.xml_text.specs.Views.{placed_view, token_view}
use Rattle.xml_schema.specs.Placing.{first_words}
use Rattle.xml_schema.proofs.placing.first_words.Given as goal

abbrev pub invariant-loop-token : goal.invariant-loop-token
invariant-loop-token l = record {
  small : l.count ≤ l.token-index + 1;
  same : first_words l.count (map (placed_view token_view) (drop l.token-index l.tokens)) ≡ first_words 1 (map (placed_view token_view) l.tokens);
}
