use Rattle.std.proofs.Common.{◌≡◌, map, take, string_bytes}
use Rattle.laws.specs.Borrowed.{borrowed}
use Rattle.csl_nodes.specs.Words.{each_once, ArePlaces}
use Rattle.csl_nodes.proofs.words.Words.of.Given as goal

abbrev pub invariant-loop-word : goal.invariant-loop-word
invariant-loop-word l = record {
  once : map string_bytes l.words.items ≡ each_once (borrowed (take l.word-index l.listed));
  placed : ArePlaces l.places (map string_bytes l.words.items);
}
