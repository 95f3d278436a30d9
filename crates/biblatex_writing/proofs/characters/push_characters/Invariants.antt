use Rattle.std.specs.Prelude.{length}
use denote.Text.{Utf8}
use denote.Shadow.{shadow}
use Rattle.std.specs.Str.{chars}
use Rattle.laws.specs.Runs.{Bars}
use Rattle.biblatex_writing.specs.ContentPieces.{stands_as_it_is, LeavesSpelled}
use Rattle.biblatex_writing.proofs.characters.push_characters.Given as goal

abbrev pub invariant-loop-c : goal.invariant-loop-c
invariant-loop-c g l =
    LeavesSpelled g.T.Target.takes l.is_verbatim l.fn.target (chars l.text) l.target (chars l.rest) × (Bars (stands_as_it_is l.is_verbatim) (chars l.rest) × shadow (Utf8 l.rest))

abbrev pub decreases-loop-c : goal.decreases-loop-c
decreases-loop-c g l = length (chars l.rest)
