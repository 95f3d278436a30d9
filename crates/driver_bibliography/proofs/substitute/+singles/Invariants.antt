use Rattle.std.specs.Str.{chars}
use Rattle.driver_bibliography.specs.Substitution.{text_alone}
use Rattle.driver_bibliography.proofs.NamedSteps.{Naming}
use Rattle.driver_bibliography.proofs.substitute.+singles.Given as goal

abbrev pub invariant-change_singles-loop-part : goal.invariant-change_singles-loop-part
invariant-change_singles-loop-part l =
    goal.unvisited-change_singles-loop-part l × Naming (text_alone (chars l.text)) l.fn.parts l.wanted l.parts l.part-index l.left
