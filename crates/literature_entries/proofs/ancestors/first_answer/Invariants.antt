use Rattle.std.proofs.Common.{drop}
use Rattle.laws.specs.Borrowed.{borrowed}
use Rattle.literature_entries.specs.Ancestors.{Asks}
use Rattle.literature_entries.proofs.ancestors.first_answer.Given as goal

abbrev pub invariant-loop-entry : goal.invariant-loop-entry
invariant-loop-entry g l =
    goal.F-IsAlwaysCallable g l.f
    × ((answer : _) (last : _) → Asks (goal.F-step g) l.f (borrowed (drop l.entry-index l.entries)) answer last → Asks (goal.F-step g) l.fn.f (borrowed l.fn.entries) answer last)
