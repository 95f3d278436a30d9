-- The names of entries in the order of a file, and what they mean.
use Rattle.std.specs.Prelude.{ℕ, suc, Bool, true, false, not, ◌&&◌, ◌||◌, ◌==◌, List, [], ◌∷◌, ◌++◌, map, filter, slice_get, Option, Some, None, nat_lt, if◌then◌else◌}
use Rattle.std.specs.List.{list_any}
use Rattle.std.specs.Str.{bytes_eq}
use Rattle.biblatex_entries.specs.Entries.{Source, names_of}
use Rattle.biblatex_meaning.specs.Listed.{Meaning, bound}
use Rattle.biblatex.specs.Indices.{Names, meaning_in}

-- names of the entry at an index
abbrev pub with_index : ℕ → List ℕ → List ℕ × ℕ
with_index index name = (name, index)

abbrev pub numbered : List (List ℕ) → ℕ → Names
numbered names index = map (with_index index) names

-- the names of all entries, of which the first has this index
abbrev pub names_from : ℕ → List Source → Names
names_from index [] = []
names_from index (e ∷ es) = numbered (names_of e) index ++ names_from (suc index) es

-- those of the names that are equal to one, in their order
abbrev pub equal_names : List ℕ → Names → Names
equal_names name ns = filter (λ n. bytes_eq name n.0) ns

-- what names mean once each of these was bound, one after the other: of equal names the last counts
abbrev pub bound_each : Names → Meaning → Meaning
bound_each [] meaning = meaning
bound_each (n ∷ ns) meaning = bound_each ns (bound (n.0 ∷ []) n.1 meaning)

-- whether there is an index, and it is below a number
abbrev pub is_below : ℕ → Option ℕ → Bool
is_below number None = false
is_below number (Some index) = nat_lt index number

-- the number of the first entry whose key is a name of one before it, among entries of which the first has this number; of equal names
-- the first of the file counts
abbrev pub first_repeated : Names → ℕ → List Source → Option ℕ
first_repeated names number [] = None
first_repeated names number (e ∷ es) = if is_below number (meaning_in names e.key) then Some number else first_repeated names (suc number) es

-- whether there is an entry, and it has the key
abbrev pub is_key_of : List ℕ → Option Source → Bool
is_key_of key None = false
is_key_of key (Some e) = bytes_eq key e.key

-- whether none of the entries has the key
abbrev pub is_no_key : List ℕ → List Source → Bool
is_no_key key es = not (list_any (bytes_eq key) (map (λ e. e.key) es))

-- Whether the key of an entry is that of no entry after it, and of no other entry that it means. Nothing more is asked where it means its own
-- entry, since another entry of this key means that one too, and is not apart.
abbrev pub is_apart : List Source → ℕ → List ℕ → List Source → Option ℕ → Bool
is_apart all number key later None = is_no_key key later
is_apart all number key later (Some index) = index == number || (not (is_key_of key (slice_get all index)) && is_no_key key later)

-- whether this is so of each entry, among entries of which the first has this number
abbrev pub are_apart : Meaning → List Source → ℕ → List Source → Bool
are_apart meaning all number [] = true
are_apart meaning all number (e ∷ es) = is_apart all number e.key es (meaning e.key) && are_apart meaning all (suc number) es
