use Rattle.std.specs.Str.{chars}
use Rattle.driver_bibliography.specs.Substitution.{text_alone}
use Rattle.driver_bibliography.proofs.ListsReplaced.{Replacing}
use Rattle.driver_bibliography.proofs.lists.+lists.Given as goal

abbrev pub invariant-replace_lists-loop-part : goal.invariant-replace_lists-loop-part
invariant-replace_lists-loop-part l =
    goal.unvisited-replace_lists-loop-part l × Replacing (text_alone (chars l.text)) l.fn.parts l.parts l.part-index
