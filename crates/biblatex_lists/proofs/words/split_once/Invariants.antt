use Rattle.std.proofs.Common.{◌≡◌, take, drop}
use Rattle.biblatex_lists.specs.Parts.{before_first}
use Rattle.biblatex_lists.specs.Words.{split_once, cut_at}
use Rattle.biblatex_lists.proofs.WordsCut.{all_prepended}
use Rattle.biblatex_lists.proofs.words.split_once.Given as goal

abbrev pub invariant-loop-i : goal.invariant-loop-i
invariant-loop-i l = record {
  pair : split_once l.mark l.text ≡ all_prepended (take l.i l.text) (split_once l.mark (drop l.i l.text));
  cut : cut_at l.mark l.text ≡ before_first (take l.i l.text) (cut_at l.mark (drop l.i l.text));
}
