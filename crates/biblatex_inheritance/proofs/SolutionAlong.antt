-- Resolving along an order keeps what is resolved, and comes to the one solution.
use Rattle.std.proofs.Common.{◌≡◌, ℕ, zero, suc, ◌+◌, ◌<◌, ◌≤◌, List, [], ◌∷◌, length, get_or, slice_get, set, take, Contains, Option, Some, None, option_map, Vec, Global, Bool, true, false, Result, Ok, Err, ◌++◌, ◌⊎◌, inl, inr, string_bytes, refl, sym, ap, subst, ◌∙◌, arith}
use Rattle.std.specs.Prelude.{IfSome, if◌then◌else◌}
use Rattle.std.proofs.Math.Path.{fun_ext}
use Rattle.std.proofs.Math.Nat.{le_refl}
use Rattle.std.proofs.lemmas.List.{length-set, take_all}
use Rattle.std.proofs.lemmas.Option.{slice_get-map, slice_get-get_or, slice_get_within}
use Rattle.biblatex_fields.specs.Fields.{AreInOrder}
use Rattle.biblatex_entries.specs.TypeNames.{type_name}
use Rattle.biblatex_entries.specs.Entries.{Source, source_view, sources_view, HaveJoinedFields}
use Rattle.biblatex_entries.specs.declared.entry.Entry.{Entry}
use Rattle.biblatex_entries.specs.Roles.{role_of}
use Rattle.biblatex_dates.specs.declared.date.Date.{Date}
use Rattle.biblatex_dates.specs.declared.error.TypeErrorKind.{TypeErrorKind}
use Rattle.biblatex_inheritance.specs.declared.error.DateFault.{DateFault}
use Rattle.reference_graph.specs.References.{lists, references_of, IsCircular}
use Rattle.reference_graph.specs.Order.{is_marked, MarksCircular, IsOrder}
use Rattle.reference_graph.proofs.OrderUses.{all_after, contained_in_order}
use Rattle.biblatex_inheritance.specs.Resolved.{Table, Offer, resolved, needs_date, date_in, fault, earlier, first_fault, offers, offer_if}
use Rattle.biblatex_inheritance.specs.Views.{offer_in, offers_in}
use Rattle.biblatex_inheritance.specs.Solution.{Solves, tables_view, entry_table_view, HasSameHead, HaveSameHeads, IsOnly, fault_in, fault_at, IsFirstFault, IsFirst, IsResolvedAt, AreResolved, NoneIsCircular}
use Rattle.biblatex_inheritance.proofs.SolutionSteps.{slice_get-set_other, slice_get-set_same, offers_apart}
use Rattle.biblatex_inheritance.proofs.SolutionJoined.{joined_more}
use Rattle.biblatex_inheritance.proofs.SolutionOrder.{not_before, below_order, not_itself, not_from_before, up_to, last_in, one_more, number_is}

-- of those done, what they resolve to; the others stand as they were
pub record IsResolvedUpTo (old cur : List Entry) (R : List (List ℕ)) (done : List ℕ) (faults : List (Option DateFault)) : Type 0 where
  pub long : length cur ≡ length old
  pub many : length faults ≡ length old
  pub heads : HaveSameHeads old cur
  pub fresh : (i : ℕ) → (Contains done i → ⊥) → slice_get cur i ≡ slice_get old i
  pub equation : (i : ℕ) → Contains done i → IfSome (slice_get old i) (λ e. (q : List ℕ) → tables_view cur i q ≡ resolved (source_view e) (offers_in cur (references_of R i)) q)
  pub ordered : (i : ℕ) → Contains done i → IfSome (slice_get cur i) (λ e. AreInOrder e.fields)
  pub faulted : (i : ℕ) → Contains done i → slice_get faults i ≡ Some (fault_in (option_map source_view (slice_get old i)) (offers_in cur (references_of R i)))
  pub joined : HaveJoinedFields (sources_view old) → HaveJoinedFields (sources_view cur)

head_same : (o : Option Entry) → HasSameHead o o
head_same None = tt
head_same (Some e) = (refl, refl)

pub resolved_first : (old : List Entry) (R : List (List ℕ)) (faults : List (Option DateFault)) → length faults ≡ length old → IsResolvedUpTo old old R [] faults
resolved_first old R faults many = record {
  long = refl;
  many = many;
  heads = λ i. head_same (slice_get old i);
  fresh = λ i _. refl;
  equation = λ i c. absurd (omega (arith, c.1));
  ordered = λ i c. absurd (omega (arith, c.1));
  faulted = λ i c. absurd (omega (arith, c.1));
  joined = λ all. all;
}

-- the head at another index, and at the index that was written
head_at : (o c : Option Entry) (e d : Entry) → o ≡ Some e → c ≡ Some d → string_bytes d.key ≡ string_bytes e.key → type_name d.entry_type ≡ type_name e.entry_type → HasSameHead o c
head_at o c e d is_o is_c key kind = rw (is_o, is_c) (key, kind)

-- with one more entry resolved, those so far are
pub resolved_more : (old cur new : List Entry) (R : List (List ℕ)) (order : List ℕ) (k : ℕ) (faults : List (Option DateFault)) (fault : Option DateFault)
    → IsOrder R order → NoneIsCircular R → length R ≡ length old → k < length order
    → IsResolvedUpTo old cur R (take k order) faults → IsResolvedAt cur new (get_or order k 0) (offers_in cur (references_of R (get_or order k 0))) fault
    → IsResolvedUpTo old new R (take (k + 1) order) (set faults (get_or order k 0) fault)
resolved_more old cur new R order k faults fault o none same low h (d, new_is, (key, kind, table_is, in_order), fault_is) =
    let n = get_or order k 0 in
    let n_low : n < length R = below_order R order k o low in
    let n_cur : n < length cur = omega (arith, n_low, same, h.long) in
    let e = get_or cur n d in
    let cur_n : slice_get cur n ≡ Some e = slice_get-get_or cur n d n_cur in
    let old_n : slice_get old n ≡ Some e = sym (h.fresh n (not_before R order k o low)) ∙ cur_n in
    let new_n : slice_get new n ≡ Some d = ap (λ (es : List Entry). slice_get es n) new_is ∙ slice_get-set_same cur n d n_cur in
    let other : (i : ℕ) → (i ≡ n → ⊥) → slice_get new i ≡ slice_get cur i = λ i apart. ap (λ (es : List Entry). slice_get es i) new_is ∙ slice_get-set_other cur n i d apart in
    let stay : (i : ℕ) → (Contains (references_of R i) n → ⊥) → offers_in new (references_of R i) ≡ offers_in cur (references_of R i) = λ i apart. ap (λ (es : List Entry). offers_in es (references_of R i)) new_is ∙ offers_apart cur n d (references_of R i) apart in
    let done_apart : (i : ℕ) → Contains (take k order) i → i ≡ n → ⊥ = λ i c is. not_before R order k o low (subst (λ (x : ℕ). Contains (take k order) x) is c) in
    record {
      long = ap length new_is ∙ (length-set cur n d ∙ h.long);
      many = length-set faults n fault ∙ h.many;
      heads = λ i. by_index i (number_is i n) (h.heads i) (other i) (head_at (slice_get old n) (slice_get new n) e d old_n new_n key kind);
      fresh = λ i undone. other i (λ is. undone (subst (λ (x : ℕ). Contains (take (k + 1) order) x) (sym is) (last_in order k low))) ∙ h.fresh i (λ c. undone (one_more order k i low c));
      equation = λ i c. elim (up_to order k i low c) [
        | inl before ↦ if_some (slice_get old i) (λ x q before_q. ap (λ (o : Option Entry). entry_table_view o q) (other i (done_apart i before)) ∙ (before_q ∙ ap (λ (os : List Offer). resolved (source_view x) os q) (sym (stay i (not_from_before R order k i o none low before))))) (h.equation i before)
        | inr is ↦ subst (λ (x : ℕ). IfSome (slice_get old x) (λ e. (q : List ℕ) → tables_view new x q ≡ resolved (source_view e) (offers_in new (references_of R x)) q)) is
            (rw old_n (λ q. ap (λ (o : Option Entry). entry_table_view o q) new_n ∙ (table_is q ∙ ap (λ (os : List Offer). resolved (source_view e) os q) (sym (stay n (not_itself R n none))))))
      ];
      ordered = λ i c. elim (up_to order k i low c) [
        | inl before ↦ subst (λ (x : Option Entry). IfSome x (λ e. AreInOrder e.fields)) (sym (other i (done_apart i before))) (h.ordered i before)
        | inr is ↦ subst (λ (x : ℕ). IfSome (slice_get new x) (λ e. AreInOrder e.fields)) is (subst (λ (x : Option Entry). IfSome x (λ e. AreInOrder e.fields)) (sym new_n) in_order)
      ];
      faulted = λ i c. elim (up_to order k i low c) [
        | inl before ↦ slice_get-set_other faults n i fault (done_apart i before) ∙ (h.faulted i before ∙ ap (λ (os : List Offer). Some (fault_in (option_map source_view (slice_get old i)) os)) (sym (stay i (not_from_before R order k i o none low before))))
        | inr is ↦ subst (λ (x : ℕ). slice_get (set faults n fault) x ≡ Some (fault_in (option_map source_view (slice_get old x)) (offers_in new (references_of R x)))) is
            (slice_get-set_same faults n fault (omega (arith, n_low, same, h.many)) ∙ ap (λ (f : Option DateFault). Some f) (fault_is ∙ rw (old_n, stay n (not_itself R n none)) refl))
      ];
      joined = λ all. joined_more cur new n (references_of R n) d n_cur new_is table_is (h.joined all);
    }
  where
    by_index : (i : ℕ) → (i ≡ get_or order k 0) ⊎ (i ≡ get_or order k 0 → ⊥) → HasSameHead (slice_get old i) (slice_get cur i) → ((i ≡ get_or order k 0 → ⊥) → slice_get new i ≡ slice_get cur i)
        → HasSameHead (slice_get old (get_or order k 0)) (slice_get new (get_or order k 0)) → HasSameHead (slice_get old i) (slice_get new i)
    by_index i (inl is) before other there = subst (λ (x : ℕ). HasSameHead (slice_get old x) (slice_get new x)) (sym is) there
    by_index i (inr apart) before other there = subst (λ (c : Option Entry). HasSameHead (slice_get old i) c) (sym (other apart)) before

    if_some : (o : Option Entry) {P Q : Entry → List ℕ → Type 0} → ((x : Entry) (q : List ℕ) → P x q → Q x q) → IfSome o (λ x. (q : List ℕ) → P x q) → IfSome o (λ x. (q : List ℕ) → Q x q)
    if_some None f h = tt
    if_some (Some x) f h = λ q. f x q (h q)

-- what references offer, viewed either way
offers_same : (old cur : List Entry) → HaveSameHeads old cur → (rs : List ℕ) → offers_in cur rs ≡ offers (sources_view old) (tables_view cur) rs
offers_same old cur heads [] = refl
offers_same old cur heads (r ∷ rs) = rw (slice_get-map source_view old r, offers_same old cur heads rs, here (slice_get old r) (slice_get cur r) (heads r)) refl
  where
    here : (o c : Option Entry) → HasSameHead o c → offer_in r c ≡ offer_if r (option_map source_view o) (entry_table_view c)
    here None None k = refl
    here None (Some d) k = absurd k
    here (Some e) None k = absurd k
    here (Some e) (Some d) k = rw k.1 refl

-- where all are done, all are resolved
pub all_resolved : (old cur : List Entry) (R : List (List ℕ)) (order : List ℕ) (faults : List (Option DateFault)) → IsOrder R order → length R ≡ length old → IsResolvedUpTo old cur R order faults → AreResolved old cur R faults
all_resolved old cur R order faults o same h = record {
  heads = h.heads;
  long = h.many;
  joined = h.joined;
  ordered = λ i. where_there (slice_get cur i) (λ e is. h.ordered i (contained_in_order R order o i (let low = slice_get_within cur i e is in omega (arith, low, same, h.long))));
  solved = λ i. subst (λ (x : Option Source). IfSome x (λ e. (q : List ℕ) → tables_view cur i q ≡ resolved e (offers (sources_view old) (tables_view cur) (references_of R i)) q)) (sym (slice_get-map source_view old i))
      (there i (slice_get old i) (λ low. rw (sym (offers_same old cur h.heads (references_of R i))) (h.equation i (contained_in_order R order o i (omega (arith, low, same))))) (λ e is. slice_get_within old i e is));
  faulted = λ i low. h.faulted i (contained_in_order R order o i (omega (arith, low, same))) ∙ rw (slice_get-map source_view old i, offers_same old cur h.heads (references_of R i)) refl;
}
  where
    where_there : (o : Option Entry) → ((e : Entry) → o ≡ Some e → IfSome o (λ x. AreInOrder x.fields)) → IfSome o (λ x. AreInOrder x.fields)
    where_there None f = tt
    where_there (Some e) f = f e refl

    there : (i : ℕ) (o : Option Entry) → (i < length old → IfSome o (λ e. (q : List ℕ) → tables_view cur i q ≡ resolved (source_view e) (offers (sources_view old) (tables_view cur) (references_of R i)) q)) → ((e : Entry) → o ≡ Some e → i < length old)
        → IfSome (option_map source_view o) (λ e. (q : List ℕ) → tables_view cur i q ≡ resolved e (offers (sources_view old) (tables_view cur) (references_of R i)) q)
    there i None f low = tt
    there i (Some e) f low = f (low e refl)

-- Two solutions agree.
agree_offers : (es : List Source) (see other : ℕ → Table) (rs : List ℕ) → ((r : ℕ) → Contains rs r → r < length es → see r ≡ other r) → offers es see rs ≡ offers es other rs
agree_offers es see other [] same = refl
agree_offers es see other (r ∷ rs) same =
    rw (agree_offers es see other rs (λ x c. same x (suc c.0, omega (arith, c.1), c.2)), here (slice_get es r) (λ e is. same r (0, omega arith, refl) (slice_get_within es r e is))) refl
  where
    here : (o : Option Source) → ((e : Source) → o ≡ Some e → see r ≡ other r) → offer_if r o (see r) ≡ offer_if r o (other r)
    here None f = refl
    here (Some e) f = ap (offer_if r (Some e)) (f e refl)

solved_at : (o : Option Source) (P : Source → Type 0) (e : Source) → o ≡ Some e → IfSome o P → P e
solved_at o P e is h = subst (λ (x : Option Source). IfSome x P) is h

pub agree_before : (es : List Source) (R : List (List ℕ)) (order : List ℕ) (see other : ℕ → Table) → IsOrder R order → NoneIsCircular R → length R ≡ length es → Solves es R see → Solves es R other
    → (k : ℕ) → k ≤ length order → (i : ℕ) → Contains (take k order) i → see i ≡ other i
agree_before es R order see other o none same a b zero low i c = absurd (omega (arith, c.1))
agree_before es R order see other o none same a b (suc k) low i c = elim (up_to order k i (omega arith) (let e : suc k ≡ k + 1 = omega arith in subst (λ (j : ℕ). Contains (take j order) i) e c)) [
  | inl before ↦ agree_before es R order see other o none same a b k (omega arith) i before
  | inr is ↦ subst (λ (x : ℕ). see x ≡ other x) is (fun_ext (λ q.
      let n = get_or order k 0 in
      let there = entry_there es n (omega (arith, below_order R order k o (omega arith), same)) in
      solved_at (slice_get es n) _ there.0 there.1 (a n) q
      ∙ (ap (λ (os : List Offer). resolved there.0 os q) (agree_offers es see other (references_of R n) (λ r refers r_low. agree_before es R order see other o none same a b k (omega arith) r (all_after R order o none k r (omega arith) refers (omega (arith, r_low, same)))))
      ∙ sym (solved_at (slice_get es n) _ there.0 there.1 (b n) q))))
]
  where
    entry_there : (es : List Source) (n : ℕ) → n < length es → (e : Source) × (slice_get es n ≡ Some e)
    entry_there [] n low = absurd (omega arith)
    entry_there (e ∷ es) zero low = (e, refl)
    entry_there (e ∷ es) (suc n) low = entry_there es n (omega arith)

pub agree : (es : List Source) (R : List (List ℕ)) (order : List ℕ) (see other : ℕ → Table) → IsOrder R order → NoneIsCircular R → length R ≡ length es → Solves es R see → Solves es R other → (i : ℕ) → i < length es → (q : List ℕ) → see i q ≡ other i q
agree es R order see other o none same a b i low q =
    let all = agree_before es R order see other o none same a b (length order) (le_refl _) i (subst (λ (xs : List ℕ). Contains xs i) (sym (take_all (length order) order (le_refl _))) (contained_in_order R order o i (omega arith))) in
    ap (λ (t : Table). t q) all

-- the references of a number, as they lie in memory
pub references_there : (refs : List (Vec ℕ Global)) (n : ℕ) (v : Vec ℕ Global) → n < length refs → v ≡ get_or refs n v → references_of (lists refs) n ≡ v.items
references_there [] n v low is = absurd (omega arith)
references_there (x ∷ refs) zero v low is = ap (λ (y : Vec ℕ Global). y.items) (sym is)
references_there (x ∷ refs) (suc n) v low is = references_there refs n v (omega arith) is

-- what refers to something is there
pub refers_below : (R : List (List ℕ)) (n c : ℕ) → Contains (references_of R n) c → n < length R
refers_below [] n c (k, low, is) = absurd (omega arith)
refers_below (rs ∷ R) zero c has = omega arith
refers_below (rs ∷ R) (suc n) c has = let more = refers_below R n c has in omega arith

pub circular_below : (R : List (List ℕ)) (n : ℕ) → IsCircular R n → n < length R
circular_below R n (m, (c, has, walk)) = refers_below R n c has

-- one more, with its references as they lie in memory
pub resolved_more_there : (old cur new : List Entry) (refs : List (Vec ℕ Global)) (rs : List ℕ) (order : List ℕ) (k : ℕ) (faults : List (Option DateFault)) (fault : Option DateFault)
    → IsOrder (lists refs) order → NoneIsCircular (lists refs) → length (lists refs) ≡ length old → k < length order → references_of (lists refs) (get_or order k 0) ≡ rs
    → IsResolvedUpTo old cur (lists refs) (take k order) faults → IsResolvedAt cur new (get_or order k 0) (offers_in cur rs) fault
    → IsResolvedUpTo old new (lists refs) (take (k + 1) order) (set faults (get_or order k 0) fault)
resolved_more_there old cur new refs rs order k faults fault o none same low is h one =
    resolved_more old cur new (lists refs) order k faults fault o none same low h (subst (λ (xs : List ℕ). IsResolvedAt cur new (get_or order k 0) (offers_in cur xs) fault) (sym is) one)

-- what is not marked does not reach itself
pub not_marked : (R : List (List ℕ)) (marks : List Bool) (k : ℕ) → MarksCircular R marks → is_marked marks k ≡ false → IsCircular R k → ⊥
not_marked R marks k told none c =
    let a = (told k).1 c in
    cc

abbrev inner : {X : Type 0} → X → Option X → X
inner d None = d
inner d (Some x) = x

-- a fault is that of an entry that there is
fault_there_is : (es : List Source) (see : ℕ → Table) (rs : List ℕ) (f : DateFault) → first_fault (offers es see rs) ≡ Some f → f.reference < length es
fault_there_is es see [] f is = absurd cc
fault_there_is es see (r ∷ rs) f is = by_entry (slice_get es r) refl is (fault_there_is es see rs f)
  where
    by_date : (d : Result (Option Date) TypeErrorKind) → r < length es → earlier (fault r d) (first_fault (offers es see rs)) ≡ Some f → (first_fault (offers es see rs) ≡ Some f → f.reference < length es) → f.reference < length es
    by_date (Ok d) low is more = more is
    by_date (Err e) low is more = subst (λ (g : DateFault). g.reference < length es) (ap (inner f) is) low

    by_entry : (o : Option Source) → slice_get es r ≡ o → first_fault (offer_if r o (see r) ++ offers es see rs) ≡ Some f → (first_fault (offers es see rs) ≡ Some f → f.reference < length es) → f.reference < length es
    by_entry None at is more = more is
    by_entry (Some e) at is more = by_date (date_in (see r)) (slice_get_within es r e at) is more

pub fault_within : (es : List Source) (R : List (List ℕ)) (see : ℕ → Table) (i : ℕ) (f : DateFault) → fault_at es R see i ≡ Some f → f.reference < length es
fault_within es R see i f is = by_entry (slice_get es i) is
  where
    by_need : (b : Bool) → (if b then first_fault (offers es see (references_of R i)) else None) ≡ Some f → f.reference < length es
    by_need true is = fault_there_is es see (references_of R i) f is
    by_need false is = absurd cc

    by_entry : (o : Option Source) → fault_in o (offers es see (references_of R i)) ≡ Some f → f.reference < length es
    by_entry None is = absurd cc
    by_entry (Some e) is = by_need (needs_date (role_of e.entry_type)) is

-- the first fault is that of an entry, and there is none before it
pub fault_there : (old new : List Entry) (R : List (List ℕ)) (faults view_faults : List (Option DateFault)) (f : DateFault) → view_faults ≡ faults → AreResolved old new R faults → IsOnly (sources_view old) R (tables_view new) → IsFirstFault view_faults f
    → (see : ℕ → Table) × Solves (sources_view old) R see × IsOnly (sources_view old) R see × IsFirst (fault_at (sources_view old) R see) f
fault_there old new R faults view_faults f same h only (n, is, before) =
    let at : slice_get faults n ≡ Some (Some f) = ap (λ (fs : List (Option DateFault)). slice_get fs n) (sym same) ∙ is in
    let low = slice_get_within faults n (Some f) at in (
      tables_view new,
      h.solved,
      only,
      (
        n,
        inside (sym (h.faulted n (omega (arith, low, h.long))) ∙ at),
        λ k less. inside (sym (h.faulted k (omega (arith, low, less, h.long))) ∙ (ap (λ (fs : List (Option DateFault)). slice_get fs k) (sym same) ∙ before k less)),
      ),
    )
  where
    inside : {X : Type 0} {a b : X} → Some a ≡ Some b → a ≡ b
    inside {X} {a} e = ap (inner a) e
