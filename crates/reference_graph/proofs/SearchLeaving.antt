-- The number that was met last is read, and no group begins with it.
use Rattle.std.proofs.Common.{◌≡◌, ℕ, inl, inr, List, Contains, get_or, ap, subst, ◌∙◌}
use Rattle.reference_graph.specs.Search.{State, unread_of, last, left}
use Rattle.reference_graph.specs.Invariant.{IsInvariant}
use Rattle.reference_graph.proofs.SearchLists.{before_or_last, without_last_has, without_last_rises}

pub left_invariant : (R : List (List ℕ)) (s : State) → IsInvariant R s → unread_of s (get_or s.path (last s.reading) 0) ≡ 0 → (Contains s.starts (last s.reading) → ⊥) → IsInvariant R (left s)
left_invariant R s k z absent = record {
  visits_long = k.visits_long;
  unread_long = k.unread_long;
  marks_long = k.marks_long;
  visited = k.visited;
  found = k.found;
  within = k.within;
  fresh = k.fresh;
  reading_rises = without_last_rises s.reading k.reading_rises;
  reading_found = λ f c. k.reading_found f (without_last_has s.reading f c);
  starts_rise = k.starts_rise;
  starts_read = λ b c. elim (before_or_last s.reading b (k.starts_read b c)) [
    | inl h ↦ h
    | inr e ↦ absurd (absent (subst (λ (x : ℕ). Contains s.starts x) e c))
  ];
  starts_first = k.starts_first;
  read = λ i hi. elim (k.read i hi) [
    | inl c ↦ elim (before_or_last s.reading i c) [
      | inl h ↦ inl h
      | inr e ↦ inr (ap (λ (j : ℕ). unread_of s (get_or s.path j 0)) e ∙ z)
    ]
    | inr e ↦ inr e
  ];
  joined = k.joined;
  settled = k.settled;
  closed = k.closed;
  sound = k.sound;
  complete = k.complete;
  listed = k.listed;
  once = k.once;
  below = k.below;
  ordered = k.ordered;
}
