-- The hash of what a value feeds a hasher.
use Rattle.std.specs.Prelude.{ℕ, List, fold}
use Rattle.std.specs.Hash as fed
use Rattle.std.specs.Hash.{HashWrites}
use Rattle.std.specs.Hash.FoldHasher as folding

-- the hash of writes, one after the other
unfoldable pub hash_of : HashWrites → ℕ
hash_of writes = folding.finish (fold folding.write folding.initial writes)

-- the hash of the bytes of a text
abbrev pub text_hash : List ℕ → ℕ
text_hash bytes = hash_of (fed.str bytes)
