use Rattle.std.proofs.Common.{drop, map}
use Rattle.xml_text.specs.Views.{placed_view, token_view}
use Rattle.xml_tree.proofs.Folded.{slice_done}
use Rattle.xml_schema.specs.Placing.{first_words}
use Rattle.xml_schema.proofs.Words.{words_end}
use Rattle.xml_schema.proofs.placing.first_words.Goals as goal

pub returns : goal.returns
returns c =
    let view = placed_view token_view in
    let xs = c.args.tokens.now in
    words_end c.loop-token.count (map view (drop c.loop-token.token-index xs)) (first_words 1 (map view xs)) c.loop-token.invariant.same (slice_done view xs c.loop-token.token-index c.loop-token-test.false)
