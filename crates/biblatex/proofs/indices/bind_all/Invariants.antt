use Rattle.std.proofs.Common.{◌≡◌, ◌≤◌, ◌+◌, map, length, string_bytes, vec_len, vec_capacity}
use Rattle.biblatex_meaning.specs.Listed.{bound}
use Rattle.biblatex.specs.Indices.{meaning_in, names_in, AreInOrder}
use Rattle.biblatex.proofs.indices.bind_all.Given as goal

abbrev pub invariant-loop-name : goal.invariant-loop-name
invariant-loop-name l =
    (bound (map string_bytes l.rest.items) l.index (meaning_in (names_in l.names.items)) ≡ bound (map string_bytes l.fn.more.items) l.index (meaning_in (names_in l.fn.names.items)))
    × AreInOrder l.names.items
    × (vec_len l.names + length l.rest.items ≤ vec_capacity l.names)

abbrev pub decreases-loop-name : goal.decreases-loop-name
decreases-loop-name l = length l.rest.items
