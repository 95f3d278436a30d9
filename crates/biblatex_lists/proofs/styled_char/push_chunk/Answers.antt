use Rattle.std.proofs.Common.{true, false}
use Rattle.biblatex_lists.proofs.StyledCharsTexts.{chars_of_letters}
use Rattle.biblatex_lists.proofs.styled_char.push_chunk.Goals as goal

pub returns-in-Normal : goal.returns-in-Normal
returns-in-Normal c = rw (c.in-Normal.is, chars_of_letters true) (rw c.as_str.ensures.value at c.push_chars.ensures)

pub returns-in-Verbatim : goal.returns-in-Verbatim
returns-in-Verbatim c = rw (c.in-Verbatim.is, chars_of_letters false) (rw c.as_str-in-Verbatim.ensures.value at c.push_chars-in-Verbatim.ensures)
