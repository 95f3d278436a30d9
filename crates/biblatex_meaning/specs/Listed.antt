-- Entries in file order, and what names mean.
use Rattle.std.specs.Prelude.{◌≡◌, ℕ, suc, Bool, List, [], ◌∷◌, ◌++◌, map, length, slice_get, filter_map, Option, Some, None, option_and_then, if◌then◌else◌}
use Rattle.std.specs.List.{list_any}
use Rattle.std.specs.Str.{bytes_eq}
use Rattle.biblatex_entries.specs.Entries.{Source, names_of, parents_of}

-- the index of the entry that a name means, if it means one
abbrev pub Meaning : Type 0
Meaning = List ℕ → Option ℕ

-- what names mean once these names mean the entry at an index, and the others what they meant
abbrev pub bound : List (List ℕ) → ℕ → Meaning → Meaning
bound names index meaning name = if list_any (bytes_eq name) names then Some index else meaning name

-- entries, and what names mean
pub record Listed : Type 0 where
  pub entries : List Source
  pub index : Meaning

-- a bibliography without entries
abbrev pub nothing : Listed
nothing = record { entries = []; index = λ name. None }

-- the entry that a name means
abbrev pub entry_named : List ℕ → Listed → Option Source
entry_named name b = option_and_then (slice_get b.entries) (b.index name)

-- one more entry, last, which these names mean from now on
abbrev pub put_last : List (List ℕ) → Source → Listed → Listed
put_last names e b = record { entries = b.entries ++ e ∷ []; index = bound names (length b.entries) b.index }

-- one more entry, last, under its key and its aliases
abbrev pub pushed : Source → Listed → Listed
pushed e b = put_last (names_of e) e b

-- of each entry the indices of those that it refers to; names that mean nothing are passed over
abbrev pub references : Listed → List (List ℕ)
references b = map (λ e. filter_map b.index (parents_of e.fields)) b.entries

-- an index among the entries after the first, counted from the first; else the first's own, where it has the name
abbrev pub after_first : Option ℕ → Bool → Option ℕ
after_first None is_named = if is_named then Some 0 else None
after_first (Some i) is_named = Some (suc i)

-- the index of the last entry that has the name as its key or an alias
abbrev pub last_named : List ℕ → List Source → Option ℕ
last_named name [] = None
last_named name (e ∷ es) = after_first (last_named name es) (list_any (bytes_eq name) (names_of e))

-- each name means the last entry that has it as its key or an alias, as in a file
abbrev pub IsAsRead : Listed → Type 0
IsAsRead b = (name : List ℕ) → b.index name ≡ last_named name b.entries
