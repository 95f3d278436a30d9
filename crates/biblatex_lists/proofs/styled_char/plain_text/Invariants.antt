use Rattle.std.proofs.Common.{◌≡◌, take}
use Rattle.laws.specs.Text.{characters}
use Rattle.biblatex_lists.specs.StyledChars.{plain}
use Rattle.biblatex_lists.proofs.styled_char.plain_text.Given as goal

abbrev pub invariant-loop-styled : goal.invariant-loop-styled
invariant-loop-styled l = characters l.text ≡ plain (take l.styled-index l.part)
