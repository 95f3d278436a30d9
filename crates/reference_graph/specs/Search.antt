-- What the search holds, and what its steps make of it.
use Rattle.std.specs.Prelude.{ℕ, ◌+◌, ◌-◌, ◌*◌, List, [], ◌∷◌, ◌++◌, Bool, true, false, length, take, drop, map, replicate, sum, count_by, slice_index, slice_index_or, slice_set}
use Rattle.reference_graph.specs.declared.search.Visit.{Visit}
use Rattle.reference_graph.specs.declared.search.Visit.TheVariants.{New, At, Done}
use Rattle.reference_graph.specs.declared.search.Search.{Search}

-- the search, without where it lies in memory
pub record State : Type 0 where
  pub visits : List Visit
  pub unread : List ℕ
  pub path : List ℕ
  pub reading : List ℕ
  pub starts : List ℕ
  pub order : List ℕ
  pub circular : List Bool

-- what a search holds
abbrev pub search_view : Search → State
search_view s = record { visits = s.visits.items; unread = s.unread.items; path = s.path.items; reading = s.reading.items; starts = s.starts.items; order = s.order.items; circular = s.circular.items }

-- where a number is; one that there is not counts as done
abbrev pub visit_of : State → ℕ → Visit
visit_of s v = slice_index_or s.visits v Done

-- how many references of a number are not read
abbrev pub unread_of : State → ℕ → ℕ
unread_of s v = slice_index s.unread v

-- all numbers but the last
abbrev pub without_last : List ℕ → List ℕ
without_last xs = take (length xs - 1) xs

-- the last number
abbrev pub last : List ℕ → ℕ
last xs = slice_index xs (length xs - 1)

-- the values after one value was written at each of the indices
abbrev pub written : {X : Type 0} → List ℕ → X → List X → List X
written [] x xs = xs
written (k ∷ ks) x xs = written ks x (slice_set xs k x)

-- a search that has met nothing
abbrev pub begun : List (List ℕ) → State
begun references = record { visits = replicate (length references) New; unread = map (λ (r : List ℕ). length r) references; path = []; reading = []; starts = []; order = []; circular = replicate (length references) false }

-- the number comes last on the path, in a group of its own, and is read next
abbrev pub entered : State → ℕ → State
entered s v = record s { visits = slice_set s.visits v (At (length s.path)); path = s.path ++ v ∷ []; reading = s.reading ++ length s.path ∷ []; starts = s.starts ++ length s.path ∷ [] }

-- one more reference of the number is read
abbrev pub taken : State → ℕ → State
taken s v = record s { unread = slice_set s.unread v (unread_of s v - 1) }

-- the number that was met last is read
abbrev pub left : State → State
left s = record s { reading = without_last s.reading }

-- the last group, which begins at the index, is ordered, and marked or not
abbrev pub finished : State → ℕ → Bool → State
finished s start circular = record s { visits = written (drop start s.path) Done s.visits; path = take start s.path; starts = without_last s.starts; order = s.order ++ drop start s.path; circular = written (drop start s.path) circular s.circular }

-- whether a number is not met yet
abbrev pub is_new : Visit → Bool
is_new New = true
is_new (At i) = false
is_new Done = false

-- how much is left to do
abbrev pub weight : State → ℕ
weight s = sum s.unread + 2 * count_by is_new s.visits + length s.reading
