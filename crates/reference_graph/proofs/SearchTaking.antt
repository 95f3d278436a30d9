-- One more reference is read.
use Rattle.std.proofs.Common.{◌≡◌, ℕ, ◌-◌, ◌<◌, ◌≤◌, inl, inr, List, Contains, length, get_or, refl, sym, ap, subst, ◌∙◌, arith, length-set}
use Rattle.std.proofs.lemmas.Bool.{cases_lt}
use Rattle.reference_graph.specs.References.{references_of}
use Rattle.reference_graph.specs.Search.{State, visit_of, unread_of, taken}
use Rattle.reference_graph.specs.Invariant.{IsInvariant, IsSettled}
use Rattle.reference_graph.proofs.SearchLists.{set_read, within_list}
use Rattle.reference_graph.proofs.SearchVisits.{same_index}

pub taken_invariant : (R : List (List ℕ)) (s : State) → IsInvariant R s → (q v : ℕ) → Contains s.reading q → get_or s.path q 0 ≡ v → 0 < unread_of s v → IsSettled s q (get_or (references_of R v) (unread_of s v - 1) 0) → IsInvariant R (taken s v)
taken_invariant R s k q v hq is some new =
    let there : v < length s.unread = within_list s.unread v (unread_of s v) 0 refl (λ e. omega arith) in
    let inside : q < length s.path = k.reading_found q hq in
    record {
      visits_long = k.visits_long;
      unread_long = length-set s.unread v (unread_of s v - 1) ∙ k.unread_long;
      marks_long = k.marks_long;
      visited = k.visited;
      found = k.found;
      within = λ x. let w = k.within x in elim (set_read s.unread v x (unread_of s v - 1) 0 there) [
        | inl e ↦ let here : unread_of s v ≤ length (references_of R x) = subst (λ (y : ℕ). unread_of s y ≤ length (references_of R x)) e.0 w in omega arith
        | inr e ↦ omega arith
      ];
      fresh = λ x e. elim (set_read s.unread v x (unread_of s v - 1) 0 there) [
        | inl p ↦
            let a = k.visited q inside in
            let b : get_or s.path q 0 ≡ x = is ∙ sym p.0 in
            let c = ap (λ (y : ℕ). visit_of s y) b in
            absurd cc
        | inr p ↦ p.1 ∙ k.fresh x e
      ];
      reading_rises = k.reading_rises;
      reading_found = k.reading_found;
      starts_rise = k.starts_rise;
      starts_read = k.starts_read;
      starts_first = k.starts_first;
      read = λ i hi. elim (k.read i hi) [
        | inl h ↦ inl h
        | inr z ↦ elim (set_read s.unread v (get_or s.path i 0) (unread_of s v - 1) 0 there) [
          | inl p ↦
              let e : i ≡ q = same_index R s k i q hi inside (p.0 ∙ sym is) in
              inl (subst (λ (j : ℕ). Contains s.reading j) (sym e) hq)
          | inr p ↦ inr (p.1 ∙ z)
        ]
      ];
      joined = k.joined;
      settled = λ i j hi low high. elim (set_read s.unread v (get_or s.path i 0) (unread_of s v - 1) 0 there) [
        | inl p ↦
            let e : i ≡ q = same_index R s k i q hi inside (p.0 ∙ sym is) in
            let u : unread_of s (get_or s.path i 0) ≡ unread_of s v = ap (λ (y : ℕ). unread_of s y) p.0 in
            elim (cases_lt j (unread_of s v)) [
              | inl lt ↦
                  let f : j ≡ unread_of s v - 1 = omega arith in
                  rw (p.0, f) (subst (λ (a : ℕ). IsSettled s a (get_or (references_of R v) (unread_of s v - 1) 0)) (sym e) new)
              | inr ge ↦ k.settled i j hi (omega arith) high
            ]
        | inr p ↦ k.settled i j hi (omega arith) high
      ];
      closed = k.closed;
      sound = k.sound;
      complete = k.complete;
      listed = k.listed;
      once = k.once;
      below = k.below;
      ordered = k.ordered;
    }
