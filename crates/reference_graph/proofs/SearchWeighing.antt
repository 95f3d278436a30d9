-- Each step leaves less to do.
use Rattle.std.proofs.Common.{◌≡◌, ℕ, ◌+◌, ◌-◌, ◌<◌, ◌≤◌, inl, inr, List, [], ◌∷◌, cond, count_by, length, set, drop, refl, ap, arith, length-take-le}
use Rattle.std.proofs.lemmas.List.{length_push, set_past}
use Rattle.std.proofs.lemmas.List.Sums.{sum_by-set}
use Rattle.std.proofs.lemmas.Bool.{cases_lt}
use Rattle.reference_graph.specs.declared.search.Visit.{Visit}
use Rattle.reference_graph.specs.declared.search.Visit.TheVariants.{New, At, Done}
use Rattle.reference_graph.specs.Search.{State, visit_of, unread_of, written, is_new, weight, entered, taken, left, finished}
use Rattle.reference_graph.proofs.SearchLists.{within_list}
use Rattle.reference_graph.proofs.SearchVisits.{there_is}
use Rattle.std.specs.Prelude.{Bool, true, false}

pub taken_less : (s : State) (v : ℕ) → 0 < unread_of s v → weight (taken s v) + 1 ≡ weight s
taken_less s v some =
    let there : v < length s.unread = within_list s.unread v (unread_of s v) 0 refl (λ e. omega arith) in
    let p = sum_by-set (λ (x : ℕ). x) s.unread v (unread_of s v - 1) 0 there in
    omega arith

pub entered_less : (s : State) (w : ℕ) → visit_of s w ≡ New → weight (entered s w) + 1 ≡ weight s
entered_less s w new =
    let there : w < length s.visits = there_is s w New new (λ e. absurd cc) in
    let p = sum_by-set (λ (x : Visit). cond {A = ℕ} (is_new x) 1 0) s.visits w (At (length s.path)) Done there in
    let one : cond {A = ℕ} (is_new (visit_of s w)) 1 0 ≡ 1 = ap (λ (x : Visit). cond {A = ℕ} (is_new x) 1 0) new in
    let l = length_push s.reading (length s.path) in
    omega arith

pub left_less : (s : State) → 0 < length s.reading → weight (left s) + 1 ≡ weight s
left_less s some =
    let l = length-take-le (length s.reading - 1) s.reading (omega arith) in
    omega arith

written_count : (ks : List ℕ) (ps : List Visit) → count_by is_new (written ks Done ps) ≤ count_by is_new ps
written_count [] ps = omega arith
written_count (k ∷ ks) ps =
    let r = written_count ks (set ps k Done) in
    elim (cases_lt k (length ps)) [
      | inl lt ↦ let p = sum_by-set (λ (x : Visit). cond {A = ℕ} (is_new x) 1 0) ps k Done Done lt in omega arith
      | inr ge ↦ let e = ap (λ (xs : List Visit). count_by is_new xs) (set_past ps k Done ge) in omega arith
    ]

pub finished_less : (s : State) (q : ℕ) (c : Bool) → weight (finished s q c) ≤ weight s
finished_less s q c = let r = written_count (drop q s.path) s.visits in omega arith

-- the test for a number that is not met
pub new_decided : (p : Visit) → is_new p ≡ true → p ≡ New
new_decided New e = refl
new_decided (At i) e = absurd cc
new_decided Done e = absurd cc

pub met_decided : (p : Visit) → is_new p ≡ false → p ≡ New → ⊥
met_decided New e f = absurd cc
met_decided (At i) e f = absurd cc
met_decided Done e f = absurd cc
