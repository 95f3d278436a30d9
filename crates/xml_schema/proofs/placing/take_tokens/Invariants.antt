use Rattle.std.proofs.Common.{length}
use Rattle.laws.specs.Steps.{each}
use Rattle.texts.specs.Views.{left}
use Rattle.xml_text.specs.Markup.{token_at}
use Rattle.laws.proofs.Gathering.{Gathers}
use Rattle.xml_schema.specs.Views.{tokens_view}
use Rattle.xml_schema.proofs.placing.take_tokens.Given as goal

abbrev pub invariant-loop-tokens : goal.invariant-loop-tokens
invariant-loop-tokens l = Gathers token_at (tokens_view l.tokens) (left l.reader) (each token_at (left l.fn.reader))

abbrev pub decreases-loop-tokens : goal.decreases-loop-tokens
decreases-loop-tokens l = length (left l.reader)
