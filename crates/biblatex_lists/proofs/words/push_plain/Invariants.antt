use Rattle.std.proofs.Common.{◌≡◌, ◌++◌, take}
use Rattle.laws.specs.Text.{characters}
use Rattle.biblatex_lists.specs.StyledChars.{plain}
use Rattle.biblatex_lists.proofs.words.push_plain.Given as goal

abbrev pub invariant-loop-styled : goal.invariant-loop-styled
invariant-loop-styled l = characters l.text ≡ characters l.fn.text ++ plain (take l.styled-index l.word)
