use Rattle.std.proofs.Common.{◌≡◌, length, reverse}
use Rattle.biblatex_content.specs.Ordinary.{steps, begun}
use Rattle.biblatex_content.specs.OrdinaryViews.{state_view}
use Rattle.biblatex_tex.specs.TokenViews.{tokens_view}
use Rattle.biblatex_content.specs.Views.{joined}
use Rattle.biblatex_content.proofs.joining.Joining.push_tokens.Given as goal

abbrev pub invariant-loop-token : goal.invariant-loop-token
invariant-loop-token l = steps (tokens_view (reverse l.tokens.items)) (state_view l.reading) ≡ steps (tokens_view (reverse l.initial.tokens.items)) (begun (joined l.fn.self))

abbrev pub decreases-loop-token : goal.decreases-loop-token
decreases-loop-token l = length l.tokens.items
