-- The last group is ordered.
use Rattle.std.proofs.Common.{◌≡◌, ℕ, ◌+◌, ◌-◌, ◌<◌, ◌≤◌, ◌⊎◌, inl, inr, List, ◌++◌, Bool, true, false, All, Contains, cond, eqb, count_by, length, get_or, take, drop, refl, sym, ap, subst, ◌∙◌, arith, length-append, length-take-le, length-drop, get_or-take, get_or-drop, take_at}
use Rattle.std.proofs.lemmas.List.{get_or_append_left, get_or-append_right, take-append-le}
use Rattle.std.proofs.lemmas.List.Sums.{sum_by-append, sum_by-take-drop}
use Rattle.std.proofs.lemmas.List.Elements.{Contains-append_left, Contains-append_right, All-append, All-from_get_or}
use Rattle.std.proofs.lemmas.Bool.{cases_eq, cases_lt}
use Rattle.reference_graph.specs.References.{references_of, IsCircular}
use Rattle.reference_graph.specs.Order.{is_marked, StandsAfter}
use Rattle.reference_graph.specs.declared.search.Visit.{Visit}
use Rattle.reference_graph.specs.declared.search.Visit.TheVariants.{New, At, Done}
use Rattle.reference_graph.specs.Search.{State, visit_of, unread_of, without_last, last, written, left, finished}
use Rattle.reference_graph.specs.Invariant.{IsInvariant, IsSettled, NoStart, IsMet, tally, IsRing, IsGroupRead}
use Rattle.reference_graph.proofs.SearchLists.{drop_has, in_drop, index_in, without_last_has, before_or_last, without_last_rises, without_last_below, last_top, has_last, written_long, written_not, written_at}
use Rattle.reference_graph.proofs.ReferencesWalks.{circular_by, circular_at_once, stays}
use Rattle.reference_graph.proofs.SearchVisits.{there_is, same_index, path_below, on_or_off}

-- a number that is before the index on the path, or not on it, is not in the group that begins there
off_group : (R : List (List ℕ)) (s : State) → IsInvariant R s → (q v : ℕ) → ((i : ℕ) → visit_of s v ≡ At i → i < q) → Contains (drop q s.path) v → ⊥
off_group R s k q v off c =
    let p = drop_has q s.path v c in
    let a : visit_of s v ≡ At p.0 = subst (λ (x : ℕ). visit_of s x ≡ At p.0) p.3 (k.visited p.0 p.2) in
    let b = off p.0 a in
    omega arith

pub starts_top : (R : List (List ℕ)) (s : State) → IsInvariant R s → (b : ℕ) → Contains s.starts b → b ≤ last s.starts
starts_top R s k b c = last_top s.starts b k.starts_rise c

-- what is known where a group is read
record Group (R : List (List ℕ)) (s : State) (q : ℕ) (c : Bool) : Type 0 where
  holds : IsInvariant R s
  read : IsGroupRead R s q c
  inside : q < length s.path
  start : Contains s.starts q
  top : (b : ℕ) → Contains s.starts b → b ≤ q

group : (R : List (List ℕ)) (s : State) (q : ℕ) (c : Bool) → IsInvariant R s → IsGroupRead R s q c → Group R s q c
group R s q c k g = record {
  holds = k;
  read = g;
  inside = k.reading_found q (has_last s.reading q g.some g.reading_last);
  start = has_last s.starts q g.begun g.starts_last;
  top = λ b h. let t = starts_top R s k b h in let e = g.starts_last in omega arith;
}

-- a number that is not in the last group stays where it is
keeps_visit : (R : List (List ℕ)) (s : State) (q : ℕ) (c : Bool) → Group R s q c → (v : ℕ) (p : Visit) → visit_of s v ≡ p → ((i : ℕ) → p ≡ At i → i < q) → visit_of (finished s q c) v ≡ p
keeps_visit R s q c g v p e off = written_not (drop q s.path) Done s.visits v Done (off_group R s g.holds q v (λ i a. off i (sym e ∙ a))) ∙ e

turns_done : (R : List (List ℕ)) (s : State) (q : ℕ) (c : Bool) → Group R s q c → (v i : ℕ) → visit_of s v ≡ At i → q ≤ i → visit_of (finished s q c) v ≡ Done
turns_done R s q c g v i e le =
    let h = g.holds.found v i e in
    written_at (drop q s.path) Done s.visits v Done (in_drop q s.path i v le h.0 h.1) (there_is s v (At i) e (λ f. absurd cc))

-- where a number was before the step: the same, or in the last group, whose numbers are done after it
data Change (R : List (List ℕ)) (s : State) (q v : ℕ) (new : Visit) : Type 0 where
  same : visit_of s v ≡ new → ((i : ℕ) → visit_of s v ≡ At i → i < q) → Change R s q v new
  done : (i : ℕ) → visit_of s v ≡ At i → q ≤ i → i < length s.path → get_or s.path i 0 ≡ v → new ≡ Done → Change R s q v new

change : (R : List (List ℕ)) (s : State) (q : ℕ) (c : Bool) → Group R s q c → (v : ℕ) → Change R s q v (visit_of (finished s q c) v)
change R s q c g v = elim (on_or_off (visit_of s v)) [
  | inl p ↦ elim (cases_lt p.0 q) [
    | inl lt ↦ same (p.1 ∙ sym (keeps_visit R s q c g v (At p.0) p.1 (λ i e. let f : p.0 ≡ i = cc in omega arith))) (λ i e. let f : p.0 ≡ i = cc in omega arith)
    | inr le ↦ let h = g.holds.found v p.0 p.1 in done p.0 p.1 le h.0 h.1 (turns_done R s q c g v p.0 p.1 le)
  ]
  | inr off ↦ same (sym (keeps_visit R s q c g v (visit_of s v) refl (λ i e. absurd (off i e)))) (λ i e. absurd (off i e))
]

-- no group begins inside the last one
inside_group : (R : List (List ℕ)) (s : State) (q : ℕ) (c : Bool) → Group R s q c → (i j : ℕ) → q ≤ j → NoStart s j i
inside_group R s q c g i j le b h low high = let t = g.top b h in absurd (omega arith)

-- an index that is in the group of another in the last group, or after it, is in the last group
not_before : (R : List (List ℕ)) (s : State) (q : ℕ) (c : Bool) → Group R s q c → (i j : ℕ) → q ≤ i → NoStart s j i → q ≤ j
not_before R s q c g i j le none = elim (cases_lt j q) [
  | inl lt ↦ absurd (none q g.start lt le)
  | inr ge ↦ ge
]

-- all of the last group is read
all_read : (R : List (List ℕ)) (s : State) (q : ℕ) (c : Bool) → Group R s q c → (i : ℕ) → q ≤ i → i < length s.path → unread_of s (get_or s.path i 0) ≡ 0
all_read R s q c g i le hi = elim (g.holds.read i hi) [
  | inl h ↦
      let t = last_top s.reading i g.holds.reading_rises h in
      let l = g.read.reading_last in
      let e : i ≡ q = omega arith in
      ap (λ (j : ℕ). unread_of s (get_or s.path j 0)) e ∙ g.read.whole
  | inr z ↦ z
]

-- what the last group refers to is done, or in it
refers_inside : (R : List (List ℕ)) (s : State) (q : ℕ) (c : Bool) → Group R s q c → (i r : ℕ) → q ≤ i → i < length s.path → Contains (references_of R (get_or s.path i 0)) r → (visit_of s r ≡ Done) ⊎ ((j : ℕ) × (visit_of s r ≡ At j) × (q ≤ j))
refers_inside R s q c g i r le hi h =
    let p = index_in (references_of R (get_or s.path i 0)) r h in
    let z = all_read R s q c g i le hi in
    let b : IsSettled s i r = subst (λ (x : ℕ). IsSettled s i x) p.2 (g.holds.settled i p.0 hi (omega arith) p.1) in
    elim b [
      | inl d ↦ inl d
      | inr w ↦ inr (w.0, w.1, not_before R s q c g i w.0 le w.2)
    ]

-- two numbers of the last group are circular
both_ways : (R : List (List ℕ)) (s : State) (q : ℕ) (c : Bool) → Group R s q c → (i j : ℕ) → q ≤ i → q ≤ j → i < length s.path → j < length s.path → (i ≡ j → ⊥) → IsCircular R (get_or s.path i 0)
both_ways R s q c g i j li lj hi hj ne =
    let a = g.holds.joined i j hi hj (inside_group R s q c g i j lj) in
    let b = g.holds.joined j i hj hi (inside_group R s q c g j i li) in
    circular_by R (get_or s.path i 0) (get_or s.path j 0) a b (λ e. ne (same_index R s g.holds i j hi hj e))

-- in a ring each number is circular
ring_circular : (R : List (List ℕ)) (s : State) (q : ℕ) (c : Bool) → Group R s q c → IsRing R s q → (i : ℕ) → q ≤ i → i < length s.path → IsCircular R (get_or s.path i 0)
ring_circular R s q c g ring i le hi = elim (cases_eq i q) [
  | inl e ↦ elim ring [
    | inl more ↦ both_ways R s q c g i (q + 1) le (omega arith) hi more (λ f. omega arith)
    | inr itself ↦ subst (λ (j : ℕ). IsCircular R (get_or s.path j 0)) (sym e) (circular_at_once R (get_or s.path q 0) itself)
  ]
  | inr ne ↦ both_ways R s q c g i q le (omega arith) hi g.inside ne
]

-- a circular number of the last group is of a ring
circular_ring : (R : List (List ℕ)) (s : State) (q : ℕ) (c : Bool) → Group R s q c → (i : ℕ) → q ≤ i → i < length s.path → IsCircular R (get_or s.path i 0) → IsRing R s q
circular_ring R s q c g i le hi (n, (a, h, w)) = elim (cases_lt (q + 1) (length s.path)) [
  | inl more ↦ inl more
  | inr one ↦
      let e : i ≡ q = omega arith in
      elim (refers_inside R s q c g i a le hi h) [
        | inl d ↦
            let back : visit_of s (get_or s.path i 0) ≡ Done = stays R (λ (x : ℕ). visit_of s x ≡ Done) g.holds.closed a (get_or s.path i 0) n d w in
            let here = g.holds.visited i hi in
            absurd cc
        | inr z ↦
            let k = g.holds.found a z.0 z.1 in
            let f : z.0 ≡ q = omega arith in
            let is : get_or s.path q 0 ≡ a = ap (λ (j : ℕ). get_or s.path j 0) (sym f) ∙ k.1 in
            let same : get_or s.path i 0 ≡ get_or s.path q 0 = ap (λ (j : ℕ). get_or s.path j 0) e in
            let t : Contains (references_of R (get_or s.path q 0)) a = subst (λ (x : ℕ). Contains (references_of R x) a) same h in
            inr (subst (λ (x : ℕ). Contains (references_of R (get_or s.path q 0)) x) (sym is) t)
      ]
]

told : (R : List (List ℕ)) (s : State) (q : ℕ) (c : Bool) → IsGroupRead R s q c → IsRing R s q → c ≡ true
told R s q true g ring = refl
told R s q false g ring = absurd (g.lone refl ring)

-- what is marked is circular
marked_sound : (R : List (List ℕ)) (s : State) (q : ℕ) (c : Bool) → Group R s q c → (v : ℕ) → is_marked (written (drop q s.path) c s.circular) v ≡ true → IsCircular R v
marked_sound R s q c g v marked = elim (change R s q c g v) [
  | same e off ↦ g.holds.sound v (sym (written_not (drop q s.path) c s.circular v false (off_group R s g.holds q v off)) ∙ marked)
  | done i a le hi is d ↦
      let there = there_is s v (At i) a (λ f. absurd cc) in
      let l = g.holds.visits_long in
      let l' = g.holds.marks_long in
      let w = written_at (drop q s.path) c s.circular v false (in_drop q s.path i v le hi is) (omega arith) in
      subst (λ (x : ℕ). IsCircular R x) is (ring_circular R s q c g (g.read.ring (sym w ∙ marked)) i le hi)
]

marked_complete : (R : List (List ℕ)) (s : State) (q : ℕ) (c : Bool) → Group R s q c → (v : ℕ) → visit_of (finished s q c) v ≡ Done → IsCircular R v → is_marked (written (drop q s.path) c s.circular) v ≡ true
marked_complete R s q c g v d circular = elim (change R s q c g v) [
  | same e off ↦ written_not (drop q s.path) c s.circular v false (off_group R s g.holds q v off) ∙ g.holds.complete v (e ∙ d) circular
  | done i a le hi is d ↦
      let there = there_is s v (At i) a (λ f. absurd cc) in
      let l = g.holds.visits_long in
      let l' = g.holds.marks_long in
      let w = written_at (drop q s.path) c s.circular v false (in_drop q s.path i v le hi is) (omega arith) in
      w ∙ told R s q c g.read (circular_ring R s q c g i le hi (subst (λ (x : ℕ). IsCircular R x) (sym is) circular))
]

-- the step changes no tally
tally_invariant : (R : List (List ℕ)) (s : State) (q : ℕ) (c : Bool) → Group R s q c → (v : ℕ) → tally (visit_of (finished s q c) v) ≡ tally (visit_of s v)
tally_invariant R s q c g v = elim (change R s q c g v) [
  | same e off ↦ ap tally (sym e)
  | done i a le hi is d ↦ ap tally d ∙ sym (ap tally a)
]

counted_once : (R : List (List ℕ)) (s : State) (q : ℕ) (c : Bool) → Group R s q c → (v : ℕ) → v < length R → count_by (λ x. eqb x v) (s.order ++ drop q s.path) + count_by (λ x. eqb x v) (take q s.path) ≡ tally (visit_of (finished s q c) v)
counted_once R s q c g v h =
    let a = g.holds.once v h in
    let b = sum_by-append (λ (x : ℕ). cond {A = ℕ} (eqb x v) 1 0) s.order (drop q s.path) in
    let d = sum_by-take-drop (λ (x : ℕ). cond {A = ℕ} (eqb x v) 1 0) s.path q in
    let t = tally_invariant R s q c g v in
    omega arith

all_below : (R : List (List ℕ)) (s : State) (q : ℕ) (c : Bool) → Group R s q c → All (λ v. v < length R) (s.order ++ drop q s.path)
all_below R s q c g = All-append (λ v. v < length R) s.order (drop q s.path) g.holds.below
    (All-from_get_or (λ v. v < length R) (drop q s.path) 0 (λ i h.
    let l = length-drop q s.path in
    rw (get_or-drop q s.path i 0) (path_below R s g.holds (q + i) (omega arith))))

-- a number that is not circular stands alone, after what it refers to
lone_after : (R : List (List ℕ)) (s : State) (q : ℕ) (c : Bool) → Group R s q c → (i : ℕ) → q ≤ i → i < length s.path → (IsCircular R (get_or s.path i 0) → ⊥) → (i ≡ q) × ((r : ℕ) → Contains (references_of R (get_or s.path i 0)) r → r < length R → Contains s.order r)
lone_after R s q c g i le hi not = elim (cases_lt (q + 1) (length s.path)) [
  | inl more ↦ absurd (not (ring_circular R s q c g (inl more) i le hi))
  | inr one ↦
      let e : i ≡ q = omega arith in (
        e,
        λ r h lt. elim (refers_inside R s q c g i r le hi h) [
          | inl d ↦ g.holds.listed r d lt
          | inr z ↦
              let k = g.holds.found r z.0 z.1 in
              let f : i ≡ z.0 = omega arith in
              let is : get_or s.path i 0 ≡ r = ap (λ (j : ℕ). get_or s.path j 0) f ∙ k.1 in
              absurd (not (circular_at_once R (get_or s.path i 0) (subst (λ (x : ℕ). Contains (references_of R (get_or s.path i 0)) x) (sym is) h)))
        ],
      )
]

all_ordered : (R : List (List ℕ)) (s : State) (q : ℕ) (c : Bool) → Group R s q c → (k : ℕ) → k < length (s.order ++ drop q s.path) → StandsAfter R (s.order ++ drop q s.path) k
all_ordered R s q c g k h = elim (cases_lt k (length s.order)) [
  | inl lt ↦ rw (get_or_append_left s.order (drop q s.path) 0 k lt, take-append-le k s.order (drop q s.path) (omega arith)) (g.holds.ordered k lt)
  | inr ge ↦
      let l = length-append s.order (drop q s.path) in
      let l' = length-drop q s.path in
      let at : get_or (s.order ++ drop q s.path) k 0 ≡ get_or s.path (q + (k - length s.order)) 0 = get_or-append_right s.order (drop q s.path) (length s.order) k 0 refl ge ∙ get_or-drop q s.path (k - length s.order) 0 in
      rw at (λ not r c' lt.
      let b = lone_after R s q c g (q + (k - length s.order)) (omega arith) (omega arith) not in
      let e : length s.order ≡ k = omega arith in
      rw (take_at s.order (drop q s.path) k e) (b.1 r c' lt))
]

-- each number before the group keeps its index on the path
visited_before : (R : List (List ℕ)) (s : State) (q : ℕ) (c : Bool) → Group R s q c → (i : ℕ) → i < q → visit_of (finished s q c) (get_or (take q s.path) i 0) ≡ At i
visited_before R s q c g i lt =
    let h = g.inside in
    let a = keeps_visit R s q c g (get_or s.path i 0) (At i) (g.holds.visited i (omega arith)) (λ j e. let f : i ≡ j = cc in omega arith) in
    rw (get_or-take q s.path i 0 lt) a

found_before : (R : List (List ℕ)) (s : State) (q : ℕ) (c : Bool) → Group R s q c → (v i : ℕ) → visit_of (finished s q c) v ≡ At i → (i < length (take q s.path)) × (get_or (take q s.path) i 0 ≡ v)
found_before R s q c g v i e =
    let inside = g.inside in
    let l = length-take-le q s.path (omega arith) in
    elim (change R s q c g v) [
      | same f off ↦
          let a = f ∙ e in
          let h = g.holds.found v i a in
          let lt = off i a in
          (omega arith, get_or-take q s.path i 0 lt ∙ h.1)
      | done j a le hi is d ↦ absurd cc
    ]

starts_before : (R : List (List ℕ)) (s : State) (q : ℕ) (c : Bool) → Group R s q c → (b : ℕ) → Contains s.starts b → b < q → Contains (without_last s.starts) b
starts_before R s q c g b h lt = elim (before_or_last s.starts b h) [
  | inl f ↦ f
  | inr e ↦ let l = g.read.starts_last in absurd (omega arith)
]

reading_before : (R : List (List ℕ)) (s : State) (q : ℕ) (c : Bool) → Group R s q c → (f : ℕ) → Contains s.reading f → f < q → Contains (without_last s.reading) f
reading_before R s q c g f h lt = elim (before_or_last s.reading f h) [
  | inl h' ↦ h'
  | inr e ↦ let l = g.read.reading_last in absurd (omega arith)
]

settled_before : (R : List (List ℕ)) (s : State) (q : ℕ) (c : Bool) → Group R s q c → (i r : ℕ) → i < q → IsSettled s i r → IsSettled (finished (left s) q c) i r
settled_before R s q c g i r lt (inl d) = inl (keeps_visit R s q c g r Done d (λ j e. absurd cc))
settled_before R s q c g i r lt (inr (j, a, none)) = elim (cases_lt j q) [
  | inl before ↦ inr (j, keeps_visit R s q c g r (At j) a (λ k e. let f : j ≡ k = cc in omega arith), λ b h low high. none b (without_last_has s.starts b h) low high)
  | inr le ↦ inl (turns_done R s q c g r j a le)
]

closed_then : (R : List (List ℕ)) (s : State) (q : ℕ) (c : Bool) → Group R s q c → (v r : ℕ) → visit_of (finished s q c) v ≡ Done → Contains (references_of R v) r → visit_of (finished s q c) r ≡ Done
closed_then R s q c g v r d h = elim (change R s q c g v) [
  | same e off ↦ keeps_visit R s q c g r Done (g.holds.closed v r (e ∙ d) h) (λ j f. absurd cc)
  | done i a le hi is d' ↦ elim (refers_inside R s q c g i r le hi (subst (λ (x : ℕ). Contains (references_of R x) r) (sym is) h)) [
    | inl f ↦ keeps_visit R s q c g r Done f (λ j f. absurd cc)
    | inr z ↦ turns_done R s q c g r z.0 z.1 z.2
  ]
]

listed_then : (R : List (List ℕ)) (s : State) (q : ℕ) (c : Bool) → Group R s q c → (v : ℕ) → visit_of (finished s q c) v ≡ Done → v < length R → Contains (s.order ++ drop q s.path) v
listed_then R s q c g v d lt = elim (change R s q c g v) [
  | same e off ↦ Contains-append_left s.order (drop q s.path) v (g.holds.listed v (e ∙ d) lt)
  | done i a le hi is d' ↦ Contains-append_right s.order (drop q s.path) v (in_drop q s.path i v le hi is)
]

new_before : (R : List (List ℕ)) (s : State) (q : ℕ) (c : Bool) → Group R s q c → (v : ℕ) → visit_of (finished s q c) v ≡ New → visit_of s v ≡ New
new_before R s q c g v e = elim (change R s q c g v) [
  | same f off ↦ f ∙ e
  | done i a le hi is d ↦ absurd cc
]

finished_of : (R : List (List ℕ)) (s : State) (q : ℕ) (c : Bool) → Group R s q c → IsInvariant R (finished (left s) q c)
finished_of R s q c g =
    let k = g.holds in
    let inside = g.inside in
    let short : length (take q s.path) ≡ q = length-take-le q s.path (omega arith) in
    let reading_last = g.read.reading_last in
    let starts_last = g.read.starts_last in
    record {
      visits_long = written_long (drop q s.path) Done s.visits ∙ k.visits_long;
      unread_long = k.unread_long;
      marks_long = written_long (drop q s.path) c s.circular ∙ k.marks_long;
      visited = λ i h. visited_before R s q c g i (omega arith);
      found = found_before R s q c g;
      within = k.within;
      fresh = λ v e. k.fresh v (new_before R s q c g v e);
      reading_rises = without_last_rises s.reading k.reading_rises;
      reading_found = λ f h. let lt = without_last_below s.reading f k.reading_rises h in omega arith;
      starts_rise = without_last_rises s.starts k.starts_rise;
      starts_read = λ b h. let lt = without_last_below s.starts b k.starts_rise h in reading_before R s q c g b (k.starts_read b (without_last_has s.starts b h)) (omega arith);
      starts_first = λ h. starts_before R s q c g 0 (k.starts_first (omega arith)) (omega arith);
      read = λ i h. let lt : i < q = omega arith in rw (get_or-take q s.path i 0 lt) (elim (k.read i (omega arith)) [
        | inl f ↦ inl (reading_before R s q c g i f lt)
        | inr z ↦ inr z
      ]);
      joined = λ i j hi hj none.
          let li : i < q = omega arith in
          let lj : j < q = omega arith in
          rw (get_or-take q s.path i 0 li, get_or-take q s.path j 0 lj) (k.joined i j (omega arith) (omega arith) (λ b h low high. none b (starts_before R s q c g b h (omega arith)) low high));
      settled = λ i j hi low high.
          let lt : i < q = omega arith in
          let e = get_or-take q s.path i 0 lt in
          let f : unread_of s (get_or (take q s.path) i 0) ≡ unread_of s (get_or s.path i 0) = ap (λ (x : ℕ). unread_of s x) e in
          let d : length (references_of R (get_or (take q s.path) i 0)) ≡ length (references_of R (get_or s.path i 0)) = ap (λ (x : ℕ). length (references_of R x)) e in
          rw e (settled_before R s q c g i (get_or (references_of R (get_or s.path i 0)) j 0) lt (k.settled i j (omega arith) (omega arith) (omega arith)));
      closed = closed_then R s q c g;
      sound = marked_sound R s q c g;
      complete = marked_complete R s q c g;
      listed = listed_then R s q c g;
      once = counted_once R s q c g;
      below = all_below R s q c g;
      ordered = all_ordered R s q c g;
    }

pub finished_invariant : (R : List (List ℕ)) (s : State) (q : ℕ) (c : Bool) → IsInvariant R s → IsGroupRead R s q c → IsInvariant R (finished (left s) q c)
finished_invariant R s q c k read = finished_of R s q c (group R s q c k read)

pub finished_met : (R : List (List ℕ)) (s : State) (q : ℕ) (c : Bool) → IsInvariant R s → IsGroupRead R s q c → (v : ℕ) → IsMet s v → IsMet (finished (left s) q c) v
finished_met R s q c k read v met e = met (new_before R s q c (group R s q c k read) v e)
