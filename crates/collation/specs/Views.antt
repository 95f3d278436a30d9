-- Keys of the code as plain data.
use Rattle.std.specs.Prelude.{ℕ, List}
use Rattle.collation.specs.Keys.{Begun}
use Rattle.collation.specs.declared.key.BegunKey.{BegunKey}
use Rattle.collation.specs.declared.key.CollationKey.{CollationKey}

-- a key
abbrev pub key_view : CollationKey → List ℕ
key_view k = k.letters.items

-- a key so far
abbrev pub begun_view : BegunKey → Begun
begun_view k = record { letters = k.letters.items; gap = k.gap }
