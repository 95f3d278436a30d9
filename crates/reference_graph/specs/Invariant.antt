-- What holds of the search between its steps.
use Rattle.std.specs.Prelude.{◌≡◌, ℕ, ◌+◌, ◌<◌, ◌≤◌, ◌⊎◌, List, Bool, true, false, length, All, Contains, count_by, slice_index, ◌==◌}
use Rattle.reference_graph.specs.References.{references_of, Walk, IsCircular}
use Rattle.reference_graph.specs.Order.{is_marked, StandsAfter}
use Rattle.reference_graph.specs.Search.{State, visit_of, unread_of, last, weight, entered}
use Rattle.reference_graph.specs.declared.search.Visit.{Visit}
use Rattle.reference_graph.specs.declared.search.Visit.TheVariants.{New, At, Done}

-- each number is less than those after it
abbrev pub Rising : List ℕ → Type 0
Rising xs = (i j : ℕ) → i < j → j < length xs → slice_index xs i < slice_index xs j

-- references lead from a to b, or they are the same
abbrev pub Reaches : List (List ℕ) → ℕ → ℕ → Type 0
Reaches references a b = (n : ℕ) × Walk references a b n

-- the number is on the path or done
abbrev pub IsMet : State → ℕ → Type 0
IsMet s v = visit_of s v ≡ New → ⊥

-- no group begins after index j, up to index i
abbrev pub NoStart : State → ℕ → ℕ → Type 0
NoStart s j i = (b : ℕ) → Contains s.starts b → j < b → b ≤ i → ⊥

-- the number is done, or on the path, in the group of index i or after it
abbrev pub IsSettled : State → ℕ → ℕ → Type 0
IsSettled s i r = (visit_of s r ≡ Done) ⊎ ((j : ℕ) × (visit_of s r ≡ At j) × NoStart s j i)

-- how often a number stands on the path and in the order
abbrev pub tally : Visit → ℕ
tally New = 0
tally (At i) = 1
tally Done = 1

-- What holds of the search between its steps.
pub record IsInvariant (references : List (List ℕ)) (s : State) : Type 0 where
  -- each number has a visit, a count and a mark
  pub visits_long : length s.visits ≡ length references
  pub unread_long : length s.unread ≡ length references
  pub marks_long : length s.circular ≡ length references
  -- each number of the path has its index there, and no other has one
  pub visited : (i : ℕ) → i < length s.path → visit_of s (slice_index s.path i) ≡ At i
  pub found : (v i : ℕ) → visit_of s v ≡ At i → (i < length s.path) × (slice_index s.path i ≡ v)
  -- no more than all references are unread, and all of a number that is not met
  pub within : (v : ℕ) → unread_of s v ≤ length (references_of references v)
  pub fresh : (v : ℕ) → visit_of s v ≡ New → unread_of s v ≡ length (references_of references v)
  -- the numbers that are being read, and the starts of groups, stand on the path in order; the first begins a group
  pub reading_rises : Rising s.reading
  pub reading_found : (f : ℕ) → Contains s.reading f → f < length s.path
  pub starts_rise : Rising s.starts
  pub starts_read : (b : ℕ) → Contains s.starts b → Contains s.reading b
  pub starts_first : 0 < length s.path → Contains s.starts 0
  -- a number of the path is being read or is read whole
  pub read : (i : ℕ) → i < length s.path → Contains s.reading i ⊎ (unread_of s (slice_index s.path i) ≡ 0)
  -- each number of the path reaches those of its group and of the groups after
  pub joined : (i j : ℕ) → i < length s.path → j < length s.path → NoStart s j i → Reaches references (slice_index s.path i) (slice_index s.path j)
  -- what a number of the path was found to refer to is done, or on the path and not in a group before
  pub settled : (i k : ℕ) → i < length s.path → unread_of s (slice_index s.path i) ≤ k → k < length (references_of references (slice_index s.path i)) → IsSettled s i (slice_index (references_of references (slice_index s.path i)) k)
  -- what is done refers to what is done
  pub closed : (v r : ℕ) → visit_of s v ≡ Done → Contains (references_of references v) r → visit_of s r ≡ Done
  -- what is marked is circular, and of what is done all that is circular is marked
  pub sound : (v : ℕ) → is_marked s.circular v ≡ true → IsCircular references v
  pub complete : (v : ℕ) → visit_of s v ≡ Done → IsCircular references v → is_marked s.circular v ≡ true
  -- what is done is in the order, each number at most once there or on the path, and those that refer after
  pub listed : (v : ℕ) → visit_of s v ≡ Done → v < length references → Contains s.order v
  pub once : (v : ℕ) → v < length references → count_by (λ k. k == v) s.order + count_by (λ k. k == v) s.path ≡ tally (visit_of s v)
  pub below : All (λ v. v < length references) s.order
  pub ordered : (k : ℕ) → k < length s.order → StandsAfter references s.order k

-- What a step leaves: what holds between steps, no number forgotten, and less to do.
pub record IsStep (references : List (List ℕ)) (old new : State) : Type 0 where
  pub holds : IsInvariant references new
  pub met : (v : ℕ) → IsMet old v → IsMet new v
  pub less : weight new < weight old

-- the group that begins at the index has more than one number, or its one number refers to itself
abbrev pub IsRing : List (List ℕ) → State → ℕ → Type 0
IsRing references s q = (q + 1 < length s.path) ⊎ Contains (references_of references (slice_index s.path q)) (slice_index s.path q)

-- The last number that is being read is read whole, the last group begins with it, and it is known whether the group is a ring.
pub record IsGroupRead (references : List (List ℕ)) (s : State) (q : ℕ) (circular : Bool) : Type 0 where
  pub some : 0 < length s.reading
  pub reading_last : last s.reading ≡ q
  pub begun : 0 < length s.starts
  pub starts_last : last s.starts ≡ q
  pub whole : unread_of s (slice_index s.path q) ≡ 0
  pub ring : circular ≡ true → IsRing references s q
  pub lone : circular ≡ false → IsRing references s q → ⊥

-- Those that remain of the starts of groups: the ones up to the index.
pub record IsCutTo (p : ℕ) (old new : List ℕ) : Type 0 where
  pub rises : Rising new
  pub from : (b : ℕ) → Contains new b → Contains old b
  pub upto : (b : ℕ) → Contains new b → b ≤ p
  pub all : (b : ℕ) → Contains old b → b ≤ p → Contains new b

-- what comes of a reference to a number at that index: it is met; or all groups from its own on become one; or it is done
abbrev pub FollowsTo : Visit → State → ℕ → State → Type 0
FollowsTo New old v new = new ≡ entered old v
FollowsTo (At p) old v new = IsCutTo p old.starts new.starts × (new ≡ record old { starts = new.starts })
FollowsTo Done old v new = new ≡ old
