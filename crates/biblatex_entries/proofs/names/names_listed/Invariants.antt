use Rattle.std.proofs.Common.{◌≡◌, ◌++◌, map, length, string_bytes}
use denote.Shadow.{shadow}
use denote.Text.{Utf8}
use Rattle.biblatex_entries.specs.Names.{listed}
use Rattle.biblatex_entries.proofs.names.names_listed.Given as goal

abbrev pub invariant-loop-name : goal.invariant-loop-name
invariant-loop-name l = (map string_bytes l.names.items ++ listed l.rest ≡ listed l.text) × shadow (Utf8 l.rest)

abbrev pub decreases-loop-name : goal.decreases-loop-name
decreases-loop-name l = length l.rest
