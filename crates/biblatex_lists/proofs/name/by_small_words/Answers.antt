use Rattle.std.proofs.Common.{arith}
use Rattle.biblatex_lists.proofs.ViewsLists.{borrowed_take, borrowed_drop, borrowed_length}
use Rattle.biblatex_lists.proofs.name.by_small_words.Goals as goal

pub returns : goal.returns
returns c = grind (arith, borrowed_take, borrowed_drop, borrowed_length)
