use Rattle.std.proofs.Common.{◌≡◌, ◌++◌, take, map}
use Rattle.std.specs.List.{flat_map}
use Rattle.laws.specs.Text.{characters}
use Rattle.biblatex_lists.specs.Writing.{so_far, after_and, written_text}
use Rattle.biblatex_lists.proofs.text_list.push_others.Given as goal

abbrev pub invariant-loop-text : goal.invariant-loop-text
invariant-loop-text l = so_far l.writing ≡ so_far l.fn.writing ++ flat_map after_and (map written_text (map characters (take l.text-index l.texts)))
