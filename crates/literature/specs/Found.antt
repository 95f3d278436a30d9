-- What is bound, as the code finds it.
use Rattle.std.specs.Prelude.{◌≡◌, ℕ, Bool, List, [], ◌++◌, map, if◌then◌else◌}
use Rattle.literature_entries.specs.declared.entry.Entry.{Entry}
use Rattle.literature.specs.Holding.{meaning}
use Rattle.literature.specs.Bindings.{Bound, Side, binds}
use Rattle.literature.specs.Views.{tree_view}
use Rattle.literature.specs.declared.node.Node.{Node}
use Rattle.literature.specs.declared.binding.Named.{Named}

-- a name and the entry that it is bound to
abbrev pub named : Named → List ℕ × Entry
named b = (b.name.now, b.entry.now)

abbrev pub all_named : List Named → Bound
all_named bs = map named bs

-- a node with its meaning and what it binds
abbrev pub side_view : Node → Side
side_view n = record { means = meaning (tree_view n); binds = binds (tree_view n) }

-- what is bound is added where something holds
pub record Adds (holds : Bool) (bound : Bound) (old new : List Named) (answer : Bool) : Type 0 where
  pub answered : answer ≡ holds
  pub added : all_named new ≡ all_named old ++ (if holds then bound else [])
