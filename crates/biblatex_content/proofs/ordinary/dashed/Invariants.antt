use Rattle.std.proofs.Common.{length}
use Rattle.std.specs.Str.{chars}
use Rattle.laws.specs.Text.{characters}
use Rattle.biblatex_tex.specs.TokenViews.{left}
use Rattle.biblatex_content.proofs.OrdinaryRuns.{ReadRuns}
use Rattle.biblatex_content.proofs.ordinary.dashed.Given as goal

abbrev pub invariant-loop-text : goal.invariant-loop-text
invariant-loop-text l = ReadRuns (chars l.piece) (left l.lexer) (characters l.text)

abbrev pub decreases-loop-text : goal.decreases-loop-text
decreases-loop-text l = length (left l.lexer)
