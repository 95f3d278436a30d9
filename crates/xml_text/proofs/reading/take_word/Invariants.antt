use Rattle.std.proofs.Common.{◌≡◌, drop}
use Rattle.texts.specs.Views.{left}
use Rattle.xml_text.specs.Reading.{word_at}
use Rattle.xml_text.proofs.reading.take_word.Given as goal

abbrev pub invariant-loop-c : goal.invariant-loop-c
invariant-loop-c l = word_at (drop l.c-index l.word) (left l.reader) ≡ word_at l.word (left l.fn.reader)
