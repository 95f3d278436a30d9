use Rattle.std.proofs.Common.{◌≡◌, ◌++◌, map, string_bytes}
use Rattle.biblatex.specs.Indices.{names_in}
use Rattle.biblatex.specs.Naming.{numbered}
use Rattle.biblatex.proofs.naming.append_names.Given as goal

abbrev pub invariant-loop-name : goal.invariant-loop-name
invariant-loop-name l = names_in l.names.items ≡ names_in l.fn.names.items ++ numbered (map string_bytes l.yielded) l.index
