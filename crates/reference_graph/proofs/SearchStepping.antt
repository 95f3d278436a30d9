-- A step of the search, whole.
use Rattle.std.proofs.Common.{◌≡◌, ℕ, ◌-◌, ◌<◌, ◌↔◌, List, Bool, IsTrue, Contains, length, get_or, set, refl, sym, ap, subst, ◌∙◌, arith}
use Rattle.std.proofs.lemmas.List.Elements.{Contains-get_or}
use Rattle.reference_graph.specs.References.{references_of}
use Rattle.reference_graph.specs.Search.{State, visit_of, unread_of, last, taken, left, finished}
use Rattle.reference_graph.specs.Invariant.{IsInvariant, IsSettled, IsStep, IsRing, IsGroupRead, FollowsTo}
use Rattle.reference_graph.proofs.SearchLists.{has_last, last_top}
use Rattle.reference_graph.proofs.SearchFollowing.{IsLast, is_last, followed}
use Rattle.reference_graph.proofs.SearchTaking.{taken_invariant}
use Rattle.reference_graph.proofs.SearchLeaving.{left_invariant}
use Rattle.reference_graph.proofs.SearchFinishing.{finished_invariant, finished_met}
use Rattle.reference_graph.proofs.SearchWeighing.{taken_less, left_less, finished_less}

with_unread : (s : State) (v u : ℕ) → u ≡ unread_of s v - 1 → record s { unread = set s.unread v u } ≡ taken s v
with_unread s v u e = rw e refl

-- one more reference of the last number is read
pub read_step : (R : List (List ℕ)) (s new : State) (q v u r : ℕ) → IsLast R s q → get_or s.path q 0 ≡ v → unread_of s v ≡ u → 0 < u → r ≡ get_or (references_of R v) (u - 1) 0 → FollowsTo (visit_of s r) s r new → IsStep R s (record new { unread = set new.unread v (u - 1) })
read_step R s new q v u r l is e some re f =
    let w = l.holds.within v in
    let c : Contains (references_of R v) r = subst (λ (x : ℕ). Contains (references_of R v) x) (sym re) (Contains-get_or (references_of R v) (u - 1) 0 (omega arith)) in
    let g = followed R s new q r (visit_of s r) refl f l (subst (λ (x : ℕ). Contains (references_of R x) r) (sym is) c) in
    let e' : unread_of new v ≡ u = ap (λ (x : List ℕ). get_or x v 0) g.unread ∙ e in
    let re' : r ≡ get_or (references_of R v) (unread_of new v - 1) 0 = re ∙ ap (λ (x : ℕ). get_or (references_of R v) (x - 1) 0) (sym e') in
    let k = taken_invariant R new g.holds q v g.reading (g.path ∙ is) (omega arith) (subst (λ (x : ℕ). IsSettled new q x) re' g.settled) in
    let t = taken_less new v (omega arith) in
    let le = g.less in
    rw (with_unread new v (u - 1) (ap (λ (x : ℕ). x - 1) (sym e'))) (record { holds = k; met = g.met; less = omega arith })

-- a group that begins with the last number is the last
starts_with : (R : List (List ℕ)) (s : State) (q : ℕ) → IsInvariant R s → 0 < length s.reading → q ≡ last s.reading → Contains s.starts q → (0 < length s.starts) × (last s.starts ≡ q)
starts_with R s q k some e c =
    let n : 0 < length s.starts = omega (arith, c.1) in
    let t = (is_last R s q k some e).top (last s.starts) (has_last s.starts (last s.starts) n refl) in
    let u = last_top s.starts q k.starts_rise c in
    (n, omega arith)

-- the last number is read whole, and no group begins with it
pub leave_step : (R : List (List ℕ)) (s : State) (q : ℕ) → IsInvariant R s → 0 < length s.reading → q ≡ last s.reading → unread_of s (get_or s.path q 0) ≡ 0 → (((0 < length s.starts) × (last s.starts ≡ q)) → ⊥) → IsStep R s (left s)
leave_step R s q k some e z other =
    let t = left_less s some in
    record {
      holds = left_invariant R s k (subst (λ (x : ℕ). unread_of s (get_or s.path x 0) ≡ 0) e z) (λ c. other (starts_with R s q k some e (subst (λ (x : ℕ). Contains s.starts x) (sym e) c)));
      met = λ v m. m;
      less = omega arith;
    }

-- the last number is read whole, and the last group begins with it
pub finish_step : (R : List (List ℕ)) (s : State) (q : ℕ) (c : Bool) → IsInvariant R s → 0 < length s.reading → q ≡ last s.reading → unread_of s (get_or s.path q 0) ≡ 0 → (0 < length s.starts) × (last s.starts ≡ q) → (IsTrue c ↔ IsRing R s q) → IsStep R s (finished (left s) q c)
finish_step R s q c k some e z begins told =
    let g : IsGroupRead R s q c = record { some = some; reading_last = sym e; begun = begins.0; starts_last = begins.1; whole = z; ring = told.0; lone = λ f ring. let t = told.1 ring in absurd cc } in
    let t = left_less s some in
    let u = finished_less (left s) q c in
    record { holds = finished_invariant R s q c k g; met = λ v. finished_met R s q c k g v; less = omega arith }
