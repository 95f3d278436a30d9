-- A text means one thing.
use Rattle.std.proofs.Common.{◌≡◌, ℕ, suc, ◌<◌, ◌&&◌, Bool, true, false, true≢false, T, List, [], ◌∷◌, length, map, drop, get_or, slice_get, Less, Option, Some, None, Result, Ok, Err, refl, sym, ap, subst, ◌∙◌, arith, inl, inr}
use Rattle.std.specs.Prelude.{IfSome, IsTrue}
use Rattle.std.specs.Option.{is_some}
use Rattle.std.specs.List.{AllByRecursion}
use Rattle.std.specs.Map.{keys_of}
use Rattle.std.specs.Ordering.{nat_cmp}
use Rattle.std.specs.Cmp.Lexicographic.{slice_cmp, nat_list_cmp_total}
use Rattle.std.specs.FinMap.Entries.{find, below_all, is_sorted, same_entries}
use Rattle.std.proofs.Math.Path.{fun_ext}
use Rattle.std.proofs.lemmas.Bool.{cases_order}
use Rattle.std.proofs.lemmas.List.{ext_get_or, length-map}
use Rattle.std.proofs.lemmas.Map.Keys.{sorted_head, sorted_tail}
use Rattle.std.proofs.lemmas.Map.Lookups.{exact_bytes}
use Rattle.std.proofs.lemmas.Map.Text.{is_eq-slice_cmp}
use Rattle.std.proofs.lemmas.Option.{slice_get_within}
use Rattle.biblatex_text.specs.Raw.{Raw, Field}
use Rattle.biblatex_text.specs.Items.{raw_of}
use Rattle.biblatex_text.specs.declared.token.Fault.{Fault}
use Rattle.biblatex_fields.specs.Fields.{Named, value_named, AreInOrder}
use Rattle.biblatex_fields.specs.Abbreviations.{Glossary, AreFlags}
use Rattle.biblatex_entries.specs.Entries.{Source}
use Rattle.biblatex_inheritance.specs.Resolved.{Table, offers, offer_if}
use Rattle.biblatex_inheritance.specs.Solution.{IsRefusedAs, fault_in, fault_at}
use Rattle.biblatex_inheritance.specs.declared.error.DateFault.{DateFault}
use Rattle.biblatex_inheritance.specs.declared.error.ResolveError.{ResolveError}
use Rattle.biblatex_inheritance.specs.declared.error.ResolveError.TheVariants as errors
use Rattle.reference_graph.specs.References.{references_of}
use Rattle.biblatex_meaning.specs.Listed.{Listed, references}
use Rattle.biblatex_meaning.specs.Reading.{Refusal, Loaded, loaded}
use Rattle.biblatex_meaning.specs.Resolved.{head, tables, IsResolved, IsUnresolved, unresolved_at, ComesTo, Means, IsMeaningOf, IsTextMeaningOf, TextMeans}

no_some : {X : Type 0} (x : X) → None ≡ Some x → ⊥
no_some x e = true≢false (sym (ap is_some e))

inside : {X : Type 0} {x y : X} → Some x ≡ Some y → x ≡ y
inside {X} {x} {y} e = ap (λ (o : Option X). unwrapped o) e
  where
    unwrapped : Option X → X
    unwrapped None = x
    unwrapped (Some z) = z

-- the flags of definitions are one
one_bit : (x y : Bool) → (IsTrue x → IsTrue y) → (IsTrue y → IsTrue x) → x ≡ y
one_bit true true f g = refl
one_bit true false f g = sym (f refl)
one_bit false true f g = g refl
one_bit false false f g = refl

one_flags : (fs gs : List Bool) (ds : List Field) → AreFlags fs ds → AreFlags gs ds → fs ≡ gs
one_flags fs gs ds a b = ext_get_or false fs gs (a.long ∙ sym b.long) (λ i low.
    let there : i < length ds = omega (arith, low, a.long) in
    one_bit (get_or fs i false) (get_or gs i false) (λ t. (b.exact i there).1 ((a.exact i there).0 t)) (λ t. (a.exact i there).1 ((b.exact i there).0 t)))

-- fields in the order of their names are one where the same stands under each name
find_is : (q : List ℕ) (fs : List Named) → find (slice_cmp nat_cmp) q fs ≡ value_named q fs
find_is q [] = refl
find_is q (f ∷ fs) = rw (is_eq-slice_cmp q f.0, find_is q fs) refl

both : (a b : Bool) → T a → T b → T (a && b)
both true b p q = q
both false b p q = p

below_is : (k : List ℕ) (fs : List Named) → AllByRecursion (λ y. slice_cmp nat_cmp k y ≡ Less) (keys_of fs) → T (below_all (slice_cmp nat_cmp) k fs)
below_is k [] h = tt
below_is k (f ∷ fs) h = rw h.0 (below_is k fs h.1)

sorted_is : (fs : List Named) → AreInOrder fs → T (is_sorted (slice_cmp nat_cmp) fs)
sorted_is [] h = tt
sorted_is (f ∷ fs) h = both _ _ (below_is f.0 fs (sorted_head (slice_cmp nat_cmp) f.0 (keys_of fs) h)) (sorted_is fs (sorted_tail (slice_cmp nat_cmp) f.0 (keys_of fs) h))

pub one_row : (fs gs : List Named) → AreInOrder fs → AreInOrder gs → ((q : List ℕ) → value_named q fs ≡ value_named q gs) → fs ≡ gs
one_row fs gs a b same = same_entries (slice_cmp nat_cmp) nat_list_cmp_total exact_bytes fs gs (sorted_is fs a) (sorted_is gs b) (λ q. find_is q fs ∙ (same q ∙ sym (find_is q gs)))

-- entries are one where their heads are, and the same stands under each name of each
one_list : (es fs : List Source) → map head es ≡ map head fs → ((i : ℕ) → IfSome (slice_get es i) (λ e. AreInOrder e.fields)) → ((i : ℕ) → IfSome (slice_get fs i) (λ e. AreInOrder e.fields))
    → ((i : ℕ) → i < length es → (q : List ℕ) → tables es i q ≡ tables fs i q) → es ≡ fs
one_list [] [] heads a b same = refl
one_list [] (f ∷ fs) heads a b same = absurd (let e : 0 ≡ suc (length (map head fs)) = ap length heads in omega (arith, e))
one_list (e ∷ es) [] heads a b same = absurd (let f : suc (length (map head es)) ≡ 0 = ap length heads in omega (arith, f))
one_list (e ∷ es) (f ∷ fs) heads a b same =
    let first : head e ≡ head f = ap (λ hs. get_or hs 0 (head e)) heads in
    let fields : e.fields ≡ f.fields = one_row e.fields f.fields (a 0) (b 0) (same 0 (omega arith)) in
    let rest : es ≡ fs = one_list es fs (ap (drop 1) heads) (λ i. a (suc i)) (λ i. b (suc i)) (λ i low. same (suc i) (omega (arith, low))) in
    λ i. record { key = (first i).0; entry_type = (first i).1; fields = fields i } ∷ rest i

one_resolved : (read x y : Listed) → IsResolved read x → IsResolved read y → x ≡ y
one_resolved read x y a b =
    let long : length x.entries ≡ length read.entries = sym (length-map x.entries head) ∙ (ap length a.heads ∙ length-map read.entries head) in
    let es : x.entries ≡ y.entries = one_list x.entries y.entries (a.heads ∙ sym b.heads) a.ordered b.ordered (λ i low. a.only (tables y.entries) b.equation i (omega (arith, low, long))) in
    let indices = a.index ∙ sym b.index in
    λ i. record { entries = es i; index = indices i }

-- references offer the same by tables that agree
same_offers : (es : List Source) (see other : ℕ → Table) (rs : List ℕ) → ((i : ℕ) → i < length es → (q : List ℕ) → see i q ≡ other i q) → offers es see rs ≡ offers es other rs
same_offers es see other [] same = refl
same_offers es see other (r ∷ rs) same = rw (same_offers es see other rs same, here (slice_get es r) (λ e is. fun_ext (same r (slice_get_within es r e is)))) refl
  where
    here : (o : Option Source) → ((e : Source) → o ≡ Some e → see r ≡ other r) → offer_if r o (see r) ≡ offer_if r o (other r)
    here None f = refl
    here (Some e) f = ap (offer_if r (Some e)) (f e refl)

same_fault : (es : List Source) (R : List (List ℕ)) (see other : ℕ → Table) → ((i : ℕ) → i < length es → (q : List ℕ) → see i q ≡ other i q) → (n : ℕ) → fault_at es R see n ≡ fault_at es R other n
same_fault es R see other same n = ap (fault_in (slice_get es n)) (same_offers es see other (references_of R n) same)

fault_below : (es : List Source) (R : List (List ℕ)) (see : ℕ → Table) (n : ℕ) (f : DateFault) → fault_at es R see n ≡ Some f → n < length es
fault_below es R see n f is = there (slice_get es n) refl is
  where
    there : (o : Option Source) → slice_get es n ≡ o → fault_in o (offers es see (references_of R n)) ≡ Some f → n < length es
    there None at is = absurd (no_some f is)
    there (Some e) at is = slice_get_within es n e at

-- an answer rules a refusal out
not_both : (read : Loaded) (x : Listed) (r : Refusal) → IsResolved read.listed x → IsUnresolved read r → ⊥
not_both read x r a b = ruled_out b.error b.why b.refusal
  where
    ruled_out : (e : ResolveError) → IsRefusedAs read.listed.entries (references read.listed) e → unresolved_at read.keys e ≡ Some r → ⊥
    ruled_out errors.Memory why is = no_some r is
    ruled_out (errors.ReferenceCycle n) why is = a.acyclic n why.1
    ruled_out (errors.UnreadableDate f) (none, (see, solves, only, (n, at, before))) is =
        let low = fault_below read.listed.entries (references read.listed) see n f at in
        no_some f (sym (a.readable n low) ∙ (sym (same_fault read.listed.entries (references read.listed) see (tables x.entries) (only (tables x.entries) a.equation) n) ∙ at))

-- the first of two that are first
one_first : (n m : ℕ) (P : ℕ → Type 0) → P n → P m → ((k : ℕ) → k < n → P k → ⊥) → ((k : ℕ) → k < m → P k → ⊥) → n ≡ m
one_first n m P here there before sooner = elim (cases_order n m) [
  | inl same ↦ same
  | inr apart ↦ elim apart [
    | inl less ↦ absurd (sooner n less here)
    | inr more ↦ absurd (before m more there)
  ]
]

one_refusal : (read : Loaded) (r s : Refusal) → IsUnresolved read r → IsUnresolved read s → r ≡ s
one_refusal read r s a b = at a.error b.error a.why b.why a.refusal b.refusal
  where
    es : List Source
    es = read.listed.entries

    R : List (List ℕ)
    R = references read.listed

    at : (e f : ResolveError) → IsRefusedAs es R e → IsRefusedAs es R f → unresolved_at read.keys e ≡ Some r → unresolved_at read.keys f ≡ Some s → r ≡ s
    at errors.Memory f p q is also = absurd (no_some r is)
    at (errors.ReferenceCycle n) errors.Memory p q is also = absurd (no_some s also)
    at (errors.UnreadableDate f) errors.Memory p q is also = absurd (no_some s also)
    at (errors.ReferenceCycle n) (errors.UnreadableDate g) p q is also = absurd (q.0 n p.1)
    at (errors.UnreadableDate f) (errors.ReferenceCycle m) p q is also = absurd (p.0 m q.1)
    at (errors.ReferenceCycle n) (errors.ReferenceCycle m) p q is also =
        let same : n ≡ m = one_first n m _ p.1 q.1 p.2 q.2 in
        inside (sym is ∙ (ap (λ k. unresolved_at read.keys (errors.ReferenceCycle k)) same ∙ also))
    at (errors.UnreadableDate f) (errors.UnreadableDate g) (none, (see, solves, only, (n, fault, before))) (none_too, (look, solves_too, only_too, (m, fault_too, sooner))) is also =
        let agree = same_fault es R see look (only look solves_too) in
        let same : n ≡ m = one_first n m (λ k. (x : DateFault) × (fault_at es R see k ≡ Some x)) (f, fault) (g, agree m ∙ fault_too)
        (λ k less x. no_some x.0 (sym (before k less) ∙ x.1)) (λ k less x. no_some x.0 (sym (agree k ∙ sooner k less) ∙ x.1)) in
        let faults : f ≡ g = inside (sym fault ∙ (ap (fault_at es R see) same ∙ (agree m ∙ fault_too))) in
        inside (sym is ∙ (ap (λ x. unresolved_at read.keys (errors.UnreadableDate x)) faults ∙ also))

one_coming : (read : Loaded) (a b : Result Listed Refusal) → ComesTo read a → ComesTo read b → a ≡ b
one_coming read (Ok x) (Ok y) h g = ap (λ (z : Listed). Ok z) (one_resolved read.listed x y h g)
one_coming read (Ok x) (Err s) h g = absurd (not_both read x s h g)
one_coming read (Err r) (Ok y) h g = absurd (not_both read y r g h)
one_coming read (Err r) (Err s) h g = ap (λ (z : Refusal). Err z) (one_refusal read r s h g)

one_meant : (l : Result Loaded Refusal) (a b : Result Listed Refusal) → Means l a → Means l b → a ≡ b
one_meant (Ok read) a b h g = one_coming read a b h.1 g.1
one_meant (Err r) a b h g = h ∙ sym g

-- a raw text means one thing
pub one_raw_meaning : (r : Raw) (a b : Result Listed Refusal) → IsMeaningOf r a → IsMeaningOf r b → a ≡ b
one_raw_meaning r a b h g =
    let definitions : h.glossary.definitions ≡ g.glossary.definitions = h.definitions ∙ sym g.definitions in
    let flags : h.glossary.flags ≡ g.glossary.flags = one_flags _ _ h.glossary.definitions h.flags (subst (AreFlags g.glossary.flags) (sym definitions) g.flags) in
    let glossary : h.glossary ≡ g.glossary = λ i. record { definitions = definitions i; flags = flags i } in
    one_meant (loaded g.glossary r.entries) a b (subst (λ (x : Glossary). Means (loaded x r.entries) a) glossary h.means) g.means

-- a text means one thing
pub one_meaning : (cs : List ℕ) (a b : Result Listed Refusal) → TextMeans cs a → TextMeans cs b → a ≡ b
one_meaning cs a b = of_raw (raw_of cs)
  where
    of_raw : (raw : Result Raw (Fault × ℕ)) → IsTextMeaningOf raw a → IsTextMeaningOf raw b → a ≡ b
    of_raw (Ok r) h g = one_raw_meaning r a b h g
    of_raw (Err f) h g = h ∙ sym g
