-- What a query finds.
use Rattle.std.specs.Prelude.{List, [], ◌∷◌, if◌then◌else◌, Result, Ok, Err}
use Rattle.literature_entries.specs.declared.entry.Entry.{Entry}
use Rattle.literature.specs.Bindings.{Bound, bindings, settled}
use Rattle.literature.specs.Holding.{holds}
use Rattle.literature.specs.Pairs.{bindings_view}
use Rattle.literature.specs.Reading.{Fault}
use Rattle.literature.specs.Trees.{Tree}
use Rattle.literature.specs.declared.query.Selected.{Selected}

-- the entries at which the selector holds, in order, each with what is bound there: each name once, with its last entry
abbrev pub answers : Tree → List Entry → List (Entry × Bound)
answers x [] = []
answers x (e ∷ es) = if holds x e then (e, settled (bindings x e)) ∷ answers x es else answers x es

-- the answers of the selector that was read, or the fault of its text
abbrev pub answered : Result Tree Fault → List Entry → Result (List (Entry × Bound)) Fault
answered (Ok x) es = Ok (answers x es)
answered (Err f) es = Err f

-- an entry that was chosen and what is bound there, as plain data
abbrev pub shown : Selected → Entry × Bound
shown s = (s.entry.now, bindings_view s.bindings)
