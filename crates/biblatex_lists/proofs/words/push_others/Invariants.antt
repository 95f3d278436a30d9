use Rattle.std.proofs.Common.{◌≡◌, ◌++◌, take}
use Rattle.std.specs.List.{flat_map}
use Rattle.laws.specs.Text.{characters}
use Rattle.laws.specs.Borrowed.{borrowed}
use Rattle.biblatex_lists.specs.Words.{past_space}
use Rattle.biblatex_lists.proofs.words.push_others.Given as goal

abbrev pub invariant-loop-word : goal.invariant-loop-word
invariant-loop-word l = characters l.text ≡ characters l.fn.text ++ flat_map past_space (borrowed (take l.word-index l.words))
