use Rattle.std.proofs.Common.{◌≡◌, ◌++◌, map}
use Rattle.literature.specs.Views.{selector_view}
use Rattle.literature.specs.Answers.{answers, shown}
use Rattle.literature.specs.Entries.{entries}
use Rattle.literature.proofs.library.Library.selected.Given as goal

abbrev pub invariant-loop-entry : goal.invariant-loop-entry
invariant-loop-entry l = map shown l.found.items ++ answers (selector_view l.selector) l.entry-iterator ≡ answers (selector_view l.selector) (entries l.self)
