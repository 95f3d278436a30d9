use Rattle.std.proofs.Common.{◌≡◌, take, map}
use Rattle.laws.specs.Text.{characters}
use Rattle.laws.specs.Borrowed.{borrowed}
use Rattle.biblatex_lists.specs.TextList.{texts_of}
use Rattle.biblatex_lists.proofs.text_list.texts_of.Given as goal

abbrev pub invariant-loop-part : goal.invariant-loop-part
invariant-loop-part l = map characters l.texts.items ≡ texts_of (borrowed (take l.part-index l.parts))
