use Rattle.laws.specs.Borrowed.{borrowed}
use Rattle.literature_entries.specs.Ancestors.{Asks, ancestors, upwards, levels}
use Rattle.literature_entries.proofs.entry.Entry.map_parents.Given as goal

abbrev pub invariant-loop-alloc : goal.invariant-loop-alloc
invariant-loop-alloc g l =
    goal.F-IsAlwaysCallable g l.f
    × ((answer : _) (last : _) → Asks (goal.F-step g) l.f (upwards (borrowed l.level.items)) answer last → Asks (goal.F-step g) l.fn.f (ancestors l.fn.self) answer last)

abbrev pub decreases-loop-alloc : goal.decreases-loop-alloc
decreases-loop-alloc g l = levels (borrowed l.level.items)
