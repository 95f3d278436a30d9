use Rattle.std.proofs.Common.{◌≡◌, ◌++◌, length}
use Rattle.laws.specs.Borrowed.{borrowed}
use Rattle.biblatex_lists.specs.Words.{words}
use Rattle.biblatex_lists.proofs.words.push_words_of.Given as goal

abbrev pub invariant-loop-word : goal.invariant-loop-word
invariant-loop-word l = borrowed l.list.items ++ words l.rest ≡ borrowed l.fn.list.items ++ words l.text

abbrev pub decreases-loop-word : goal.decreases-loop-word
decreases-loop-word l = length l.rest
