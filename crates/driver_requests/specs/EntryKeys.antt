-- Entries that are looked up by their hashes and keys.
use Rattle.std.specs.Prelude.{◌≡◌, ℕ, Bool, ◌&&◌, nat_eq, bytes_eq, List}
use Rattle.std.specs.BTreeMap.{BTreeMap, get}
use Rattle.std.specs.Cow.{cow_str_bytes}
use Rattle.std.specs.Cmp.Lexicographic.{slice_cmp}
use Rattle.std.specs.Hash.{HashWrites}
use Rattle.std.specs.Ordering.{nat_cmp, ordering_then}
use Rattle.std.specs.declared.cmp.Ordering.{Ordering}
use Rattle.rendering_entries.specs.Answers.{Answers}
use Rattle.hashes.specs.Hashes.{hash_of}
use Rattle.driver_requests.specs.Indices.{index_in}
use Rattle.driver_requests.specs.declared.hashed_key.HashedKey.{HashedKey}

-- by hashes, and by keys where these are equal
abbrev pub order : HashedKey → HashedKey → Ordering
order k l = ordering_then (nat_cmp k.hash l.hash) (slice_cmp nat_cmp (cow_str_bytes k.key) (cow_str_bytes l.key))

-- whether an entry has this hash and this key
abbrev pub has_key : {T : Type 0} → (T → HashWrites) → (T → Answers) → HashedKey → T → Bool
has_key fed answers k e = nat_eq (hash_of (fed e)) k.hash && bytes_eq (answers e).key (cow_str_bytes k.key)

-- a table has for each hash and key the index of the first entry that has both
abbrev pub IsIndex : {T : Type 0} → (HashedKey → T → Bool) → BTreeMap HashedKey ℕ → List T → Type 0
IsIndex has table es = (k : HashedKey) → get order table k ≡ index_in (has k) es
