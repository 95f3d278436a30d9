use Rattle.std.proofs.Common.{◌++◌, map, ap, ◌∙◌}
use Rattle.std.specs.Option.{option_to_list}
use Rattle.rendering_style.specs.Views.{test_view}
use Rattle.csl_words.proofs.Kept.{words_keep_on}
use Rattle.csl_nodes.specs.Conditions.{test_of}
use Rattle.csl_nodes.proofs.Meant.{pushed_viewed}
use Rattle.csl_nodes.proofs.conditions.push_tests.Goals as goal

pub loop-word-preserved : goal.loop-word-preserved
loop-word-preserved c =
    words_keep_on (test_of c.args.question) c.args.words.now c.loop-word.word-index _ (map test_view c.args.tests.now.items) (map test_view c.loop-word.tests.items) (map test_view c.push_if.new.values.items)
    c.loop-word-test.true c.loop-word.invariant
    (pushed_viewed test_view c.loop-word.tests.items c.push_if.new.values.items c.test_of.result c.in_ok-push_if.ensures ∙ ap (λ o. map test_view c.loop-word.tests.items ++ option_to_list o) c.test_of.ensures)
