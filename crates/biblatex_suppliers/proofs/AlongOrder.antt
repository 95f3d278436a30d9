-- Along an order what each entry inherits becomes known, and by it what each resolves to is seen.
use Rattle.std.proofs.Common.{◌≡◌, ℕ, true, zero, suc, ◌+◌, ◌<◌, List, [], ◌∷◌, length, get_or, slice_get, set, take, Contains, Option, Some, None, inl, inr, refl, sym, ap, subst, ◌∙◌, arith}
use Rattle.std.specs.Prelude.{IfSome, MatchOption}
use Rattle.std.specs.Option.{is_some}
use Rattle.std.proofs.lemmas.Bool.{cases_lt}
use Rattle.std.proofs.lemmas.Option.{slice_get_past, slice_get_within}
use Rattle.reference_graph.specs.References.{references_of}
use Rattle.reference_graph.specs.Order.{IsOrder}
use Rattle.reference_graph.proofs.OrderUses.{all_after, contained_in_order}
use Rattle.biblatex_entries.specs.Roles.{role_of}
use Rattle.biblatex_entries.specs.Entries.{Source}
use Rattle.biblatex_inheritance.specs.Resolved.{Table, resolved, offers}
use Rattle.biblatex_inheritance.specs.Solution.{Solves, NoneIsCircular, IsFirst, fault_in, fault_at}
use Rattle.biblatex_inheritance.specs.declared.error.DateFault.{DateFault}
use Rattle.biblatex_inheritance.proofs.SolutionOrder.{not_before, below_order, up_to}
use Rattle.biblatex_inheritance.proofs.SolutionSteps.{slice_get-set_other, slice_get-set_same}
use Rattle.biblatex_suppliers.specs.Asked.{is_asked}
use Rattle.biblatex_suppliers.specs.Suppliers.{seen_by, seen, fault_of}
use Rattle.biblatex_suppliers.specs.Seen.{AreSupplied, AreSuppliedAt, IsKnown, AreAllSupplied, Agree, IsSeen}
use Rattle.biblatex_suppliers.specs.declared.supplier.Supplies.{Supplies}
use Rattle.biblatex_suppliers.proofs.SeeingAlike.{seen_resolved, supplied_alike}

-- of an entry whose inheritance is known what it resolves to is seen
pub known_seen : (es : List Source) (R : List (List ℕ)) (see : ℕ → Table) (ss : List Supplies) (i : ℕ) → Solves es R see → IsKnown es R see ss i → Agree es (seen es ss) see i
known_seen es R see ss i solves there = by (slice_get es i) refl (solves i) there
  where
    by : (o : Option Source) → slice_get es i ≡ o → IfSome o (λ e. (name : List ℕ) → see i name ≡ resolved e (offers es see (references_of R i)) name)
        → IfSome o (λ e. (s : Supplies) × (slice_get ss i ≡ Some s) × AreSupplied es (role_of e.entry_type) (offers es see (references_of R i)) s) → IfSome o (λ e. (name : List ℕ) → is_asked (role_of e.entry_type) name ≡ true → seen es ss i name ≡ see i name)
    by None at solved there = tt
    by (Some e) at solved there = λ q asks.
        ap (λ (o : Option Supplies). seen_by es i o q) there.1 ∙ (seen_resolved es i e (offers es see (references_of R i)) there.0 q at there.2 asks ∙ sym (solved q))

-- what is known of those before an index
abbrev pub AreKnown : List Source → List (List ℕ) → List Supplies → List ℕ → Type 0
AreKnown es R ss done = (see : ℕ → Table) → Solves es R see → (i : ℕ) → Contains done i → IsKnown es R see ss i

-- those that the entry at an index refers to are seen as they resolve
agree_before : (es : List Source) (R : List (List ℕ)) (order : List ℕ) (k : ℕ) (ss : List Supplies) (see : ℕ → Table) → IsOrder R order → NoneIsCircular R → length R ≡ length es → k < length order → Solves es R see
    → ((i : ℕ) → Contains (take k order) i → IsKnown es R see ss i) → (r : ℕ) → Contains (references_of R (get_or order k 0)) r → Agree es (seen es ss) see r
agree_before es R order k ss see o none same low solves known r refers = elim (cases_lt r (length R)) [
  | inl less ↦ known_seen es R see ss r solves (known r (all_after R order o none k r low refers less))
  | inr past ↦ subst (λ (x : Option Source). IfSome x (λ e. (name : List ℕ) → is_asked (role_of e.entry_type) name ≡ true → seen es ss r name ≡ see r name)) (sym (slice_get_past es r (omega (arith, past, same)))) tt
]

-- one more entry of which it is known what it inherits
pub known_more : (es : List Source) (R : List (List ℕ)) (order : List ℕ) (k : ℕ) (ss : List Supplies) (s : Supplies) → IsOrder R order → NoneIsCircular R → length R ≡ length es → k < length order → length ss ≡ length es
    → AreKnown es R ss (take k order) → AreSuppliedAt es (offers es (seen es ss) (references_of R (get_or order k 0))) (slice_get es (get_or order k 0)) s → AreKnown es R (set ss (get_or order k 0) s) (take (k + 1) order)
known_more es R order k ss s o none same low long known one see solves i has = elim (up_to order k i low has) [
  | inl before ↦ kept (slice_get es i) (λ is. not_before R order k o low (subst (λ (x : ℕ). Contains (take k order) x) is before)) (known see solves i before)
  | inr is ↦ subst (λ (x : ℕ). IsKnown es R see (set ss (get_or order k 0) s) x) is (there (slice_get es (get_or order k 0)) one)
]
  where
    kept : (x : Option Source) → (i ≡ get_or order k 0 → ⊥) → IfSome x (λ e. (t : Supplies) × (slice_get ss i ≡ Some t) × AreSupplied es (role_of e.entry_type) (offers es see (references_of R i)) t)
        → IfSome x (λ e. (t : Supplies) × (slice_get (set ss (get_or order k 0) s) i ≡ Some t) × AreSupplied es (role_of e.entry_type) (offers es see (references_of R i)) t)
    kept None apart h = tt
    kept (Some e) apart h = (h.0, slice_get-set_other ss (get_or order k 0) i s apart ∙ h.1, h.2)

    within : get_or order k 0 < length ss
    within = let below = below_order R order k o low in omega (arith, below, same, long)

    there : (x : Option Source) → IfSome x (λ e. AreSupplied es (role_of e.entry_type) (offers es (seen es ss) (references_of R (get_or order k 0))) s)
        → IfSome x (λ e. (t : Supplies) × (slice_get (set ss (get_or order k 0) s) (get_or order k 0) ≡ Some t) × AreSupplied es (role_of e.entry_type) (offers es see (references_of R (get_or order k 0))) t)
    there None h = tt
    there (Some e) h = (
      s,
      slice_get-set_same ss (get_or order k 0) s within,
      supplied_alike es (seen es ss) see (role_of e.entry_type) (references_of R (get_or order k 0)) s (agree_before es R order k ss see o none same low solves (known see solves)) h,
    )

-- where it is known of all, it is known of each
pub all_known : (es : List Source) (R : List (List ℕ)) (order : List ℕ) (ss : List Supplies) → IsOrder R order → length R ≡ length es → length ss ≡ length es → AreKnown es R ss order → AreAllSupplied es R ss
all_known es R order ss o same long known = record {
  long = long;
  known = λ see solves i low. known see solves i (contained_in_order R order o i (omega (arith, low, same)));
}

-- what is seen of each entry is what it resolves to
pub all_seen : (es : List Source) (R : List (List ℕ)) (ss : List Supplies) (see : ℕ → Table) → AreAllSupplied es R ss → Solves es R see → IsSeen es see ss
all_seen es R ss see known solves i = elim (cases_lt i (length es)) [
  | inl less ↦ known_seen es R see ss i solves (known.known see solves i less)
  | inr past ↦ subst (λ (x : Option Source). IfSome x (λ e. (name : List ℕ) → is_asked (role_of e.entry_type) name ≡ true → seen es ss i name ≡ see i name)) (sym (slice_get_past es i past)) tt
]

entry_there : (es : List Source) (n : ℕ) → n < length es → (e : Source) × (slice_get es n ≡ Some e)
entry_there [] n low = absurd (omega (arith, low))
entry_there (e ∷ es) zero low = (e, refl)
entry_there (e ∷ es) (suc n) low = entry_there es n (omega (arith, low))

-- the fault of an entry that is known is that of its references as they resolve
pub fault_is : (es : List Source) (R : List (List ℕ)) (ss : List Supplies) (see : ℕ → Table) → AreAllSupplied es R ss → Solves es R see → (i : ℕ) → i < length es → fault_of (slice_get ss i) ≡ fault_at es R see i
fault_is es R ss see known solves i low =
    let found = entry_there es i low in
    by found.0 found.1 (subst (λ (x : Option Source). IfSome x (λ e. (s : Supplies) × (slice_get ss i ≡ Some s) × AreSupplied es (role_of e.entry_type) (offers es see (references_of R i)) s)) found.1 (known.known see solves i low))
  where
    by : (e : Source) → slice_get es i ≡ Some e → (s : Supplies) × (slice_get ss i ≡ Some s) × AreSupplied es (role_of e.entry_type) (offers es see (references_of R i)) s → fault_of (slice_get ss i) ≡ fault_at es R see i
    by e at there = ap fault_of there.1 ∙ (there.2.fault ∙ ap (λ (x : Option Source). fault_in x (offers es see (references_of R i))) (sym at))

-- the first fault among those that are known is the first of all
pub first_is : (es : List Source) (R : List (List ℕ)) (ss : List Supplies) (f : DateFault) → AreAllSupplied es R ss → IsFirst (λ i. fault_of (slice_get ss i)) f → (see : ℕ → Table) → Solves es R see → IsFirst (fault_at es R see) f
first_is es R ss f known (n, at, before) see solves =
    let low = within (slice_get ss n) refl at in (
      n,
      sym (fault_is es R ss see known solves n low) ∙ at,
      λ k less. sym (fault_is es R ss see known solves k (omega (arith, less, low))) ∙ before k less,
    )
  where
    within : (o : Option Supplies) → slice_get ss n ≡ o → fault_of o ≡ Some f → n < length es
    within None is at = absurd cc
    within (Some s) is at = let low = slice_get_within ss n s is in omega (arith, low, known.long)

-- a fault is the first where none stands before it
pub found_first : (ss : List Supplies) (i : ℕ) (s : Supplies) (o : Option DateFault) → slice_get ss i ≡ Some s → o ≡ s.dated.fault → is_some o ≡ true → ((k : ℕ) → k < i → fault_of (slice_get ss k) ≡ None)
    → MatchOption o ((k : ℕ) → k < length ss → fault_of (slice_get ss k) ≡ None) (IsFirst (λ k. fault_of (slice_get ss k)))
found_first ss i s None at is some before = absurd cc
found_first ss i s (Some f) at is some before = (i, ap fault_of at ∙ sym is, before)
