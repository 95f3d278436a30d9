use Rattle.std.proofs.Common.{◌++◌, [], ap, ◌∙◌}
use Rattle.std.specs.Option.{option_to_list}
use Rattle.csl_words.specs.Looking.{table_view, in_table}
use Rattle.csl_words.proofs.Kept.{words_keep_on}
use Rattle.csl_words.proofs.listing.values_of.Goals as goal

pub loop-word-preserved : goal.loop-word-preserved
loop-word-preserved g c =
    words_keep_on (in_table (table_view c.args.rows.now)) c.args.words.now c.loop-word.word-index _ [] c.loop-word.values.items c.push_value.new.values.items c.loop-word-test.true c.loop-word.invariant
    (c.in_ok-push_value.ensures ∙ ap (λ o. c.loop-word.values.items ++ option_to_list o) c.in_table.ensures)
