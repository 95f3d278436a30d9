use Rattle.std.proofs.Common.{length, reverse}
use Rattle.biblatex_tex.specs.TokenViews.{tokens_view}
use Rattle.biblatex_tex.proofs.TokenPairing.{GoesBack}
use Rattle.biblatex_tex.proofs.token.paired_tokens.Given as goal

abbrev pub invariant-loop-token : goal.invariant-loop-token
invariant-loop-token l = GoesBack (tokens_view l.initial.tokens.items) (tokens_view l.tokens.items) (tokens_view (reverse l.paired.items)) (reverse l.dollars.groups.items)

abbrev pub decreases-loop-token : goal.decreases-loop-token
decreases-loop-token l = length l.tokens.items
