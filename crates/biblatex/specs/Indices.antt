-- What names mean: the indices of entries.
use Rattle.std.specs.Prelude.{◌≡◌, ℕ, ◌-◌, ◌<◌, ◌==◌, true, false, Bool, IfSome, nat_lt, List, map, Option, Some, None, option_and_then, if◌then◌else◌, string_bytes}
use Rattle.std.specs.List.Sorted.{IsSortedByKey, IsStrictlySortedBy, IsPartitionPoint}
use Rattle.std.specs.Cmp.Lexicographic.{slice_cmp}
use Rattle.std.specs.Ordering.{nat_cmp, is_lt}
use Rattle.std.specs.Str.{bytes_eq}
use Rattle.std.specs.Map.{lookup}
use Rattle.biblatex_meaning.specs.Listed.{Meaning}
use Rattle.biblatex.specs.declared.indices.NamedIndex.{NamedIndex}

-- names, as bytes, each with the index of the entry that it means; of equal names the first counts
abbrev pub Names : Type 0
Names = List (List ℕ × ℕ)

-- what a name means by a list of names
abbrev pub meaning_in : Names → Meaning
meaning_in names name = lookup (bytes_eq name) names

-- the index of an entry once the one at an index is taken out: those after it are one less
abbrev pub index_without : ℕ → ℕ → Option ℕ
index_without out index = if index == out then None else Some (if nat_lt out index then index - 1 else index)

-- what names mean once the entry at an index is taken out with all its names
abbrev pub without_index : ℕ → Meaning → Meaning
without_index out meaning name = option_and_then (index_without out) (meaning name)

-- each index that a name means is below the count
abbrev pub AreWithin : Meaning → ℕ → Type 0
AreWithin meaning count = (name : List ℕ) → IfSome (meaning name) (λ index. index < count)

-- the names in memory
abbrev pub name_of : NamedIndex → List ℕ
name_of n = string_bytes n.name.text

abbrev pub named_index : NamedIndex → List ℕ × ℕ
named_index n = (name_of n, n.index)

abbrev pub names_in : List NamedIndex → Names
names_in ns = map named_index ns

-- no name is less than the one before it, by their bytes
abbrev pub AreSorted : List NamedIndex → Type 0
AreSorted ns = IsSortedByKey name_of (slice_cmp nat_cmp) ns

-- each name is less than those after it, so that none stands twice
abbrev pub AreInOrder : List NamedIndex → Type 0
AreInOrder ns = IsStrictlySortedBy (slice_cmp nat_cmp) (map name_of ns)

-- whether a name is less than another
abbrev pub is_less : List ℕ → NamedIndex → Bool
is_less name n = is_lt (slice_cmp nat_cmp (name_of n) name)

-- whether what stands at a place, if something does, has the name
abbrev pub has_name : List ℕ → Option NamedIndex → Bool
has_name name None = false
has_name name (Some n) = bytes_eq name (name_of n)

-- a name whose index is one less where it comes after one that is taken out
abbrev pub named_down : ℕ → NamedIndex → NamedIndex
named_down out n = record { name = n.name; index = if nat_lt out n.index then n.index - 1 else n.index }

-- the names before a place are less than this one, and those from there on are not
abbrev pub IsPlace : List NamedIndex → List ℕ → ℕ → Type 0
IsPlace ns name place = IsPartitionPoint (λ n. is_less name n ≡ true) (λ n. is_less name n ≡ false) ns place
