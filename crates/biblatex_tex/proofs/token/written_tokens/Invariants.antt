use Rattle.std.proofs.Common.{◌≡◌, length}
use Rattle.std.specs.Str.{chars}
use Rattle.biblatex_tex.specs.Token.{tokens_of}
use Rattle.biblatex_tex.specs.TokenViews.{left, tokens_view}
use Rattle.biblatex_tex.proofs.TokenLexing.{gathered}
use Rattle.biblatex_tex.proofs.token.written_tokens.Given as goal

abbrev pub invariant-loop-tokens : goal.invariant-loop-tokens
invariant-loop-tokens l = gathered (tokens_view l.tokens.items) (tokens_of (left l.lexer)) ≡ tokens_of (chars l.text)

abbrev pub decreases-loop-tokens : goal.decreases-loop-tokens
decreases-loop-tokens l = length (left l.lexer)
