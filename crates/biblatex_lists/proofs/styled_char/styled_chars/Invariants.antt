use Rattle.std.proofs.Common.{◌≡◌, take}
use Rattle.biblatex_content.specs.Views.{styled}
use Rattle.biblatex_lists.specs.StyledChars.{styled_chars}
use Rattle.biblatex_lists.proofs.styled_char.styled_chars.Given as goal

abbrev pub invariant-loop-chunk : goal.invariant-loop-chunk
invariant-loop-chunk l = l.list.items ≡ styled_chars (styled (take l.chunk-index l.value))
