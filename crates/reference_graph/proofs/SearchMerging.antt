-- Groups that reach each other become one.
use Rattle.std.proofs.Common.{◌≡◌, ℕ, ◌<◌, ◌≤◌, inl, inr, List, Contains, length, get_or, arith}
use Rattle.std.proofs.lemmas.Bool.{cases_lt}
use Rattle.reference_graph.specs.References.{references_of}
use Rattle.reference_graph.specs.declared.search.Visit.TheVariants.{At}
use Rattle.reference_graph.specs.Search.{State, visit_of}
use Rattle.reference_graph.specs.Invariant.{IsInvariant, IsSettled, Reaches, IsCutTo}
use Rattle.reference_graph.proofs.ReferencesWalks.{reaches_on}

fewer : (s : State) (new : List ℕ) (p i r : ℕ) → IsCutTo p s.starts new → IsSettled s i r → IsSettled (record s { starts = new }) i r
fewer s new p i r cut (inl d) = inl d
fewer s new p i r cut (inr (j, a, none)) = inr (j, a, λ b c low high. none b (cut.from b c) low high)

pub merged_invariant : (R : List (List ℕ)) (s : State) → IsInvariant R s → (p q : ℕ) (new : List ℕ) → IsCutTo p s.starts new → p < length s.path → q < length s.path → ((b : ℕ) → Contains s.starts b → b ≤ q) → Reaches R (get_or s.path q 0) (get_or s.path p 0) → IsInvariant R (record s { starts = new })
merged_invariant R s k p q new cut hp hq top edge = record {
  visits_long = k.visits_long;
  unread_long = k.unread_long;
  marks_long = k.marks_long;
  visited = k.visited;
  found = k.found;
  within = k.within;
  fresh = k.fresh;
  reading_rises = k.reading_rises;
  reading_found = k.reading_found;
  starts_rise = cut.rises;
  starts_read = λ b c. k.starts_read b (cut.from b c);
  starts_first = λ h. cut.all 0 (k.starts_first h) (omega arith);
  read = k.read;
  joined = λ i j hi hj none. elim (cases_lt p i) [
    | inl lt ↦
        let a = k.joined i q hi hq (λ b c low high. let t = top b c in absurd (omega arith)) in
        let z = k.joined p j hp hj (λ b c low high. none b (cut.all b c high) low (omega arith)) in
        reaches_on R (get_or s.path i 0) (get_or s.path q 0) (get_or s.path j 0) a (reaches_on R (get_or s.path q 0) (get_or s.path p 0) (get_or s.path j 0) edge z)
    | inr le ↦ k.joined i j hi hj (λ b c low high. none b (cut.all b c (omega arith)) low high)
  ];
  settled = λ i j hi low high. fewer s new p i (get_or (references_of R (get_or s.path i 0)) j 0) cut (k.settled i j hi low high);
  closed = k.closed;
  sound = k.sound;
  complete = k.complete;
  listed = k.listed;
  once = k.once;
  below = k.below;
  ordered = k.ordered;
}

-- the number whose group the others were joined to is in that group
pub merged_settled : (s : State) (p q r : ℕ) (new : List ℕ) → IsCutTo p s.starts new → visit_of s r ≡ At p → IsSettled (record s { starts = new }) q r
merged_settled s p q r new cut e = inr (p, e, λ b c low high. let u = cut.upto b c in absurd (omega arith))
