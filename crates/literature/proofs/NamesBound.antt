-- Indices of names, while names are bound.
use Rattle.std.specs.Global.{Global}
use Rattle.std.proofs.Common.{◌≡◌, ℕ, zero, suc, ◌<◌, Bool, true, false, cond, List, [], ◌∷◌, ◌++◌, map, length, get_or, set, Option, Some, None, Bor, String, string_bytes, bytes_eq, refl, sym, ap, ◌∙◌, subst, arith}
use Rattle.std.specs.Cmp.Lexicographic.{bytes_decides, nat_list_eq_equiv}
use Rattle.std.specs.Map.{lookup}
use Rattle.std.specs.Option.{option_map}
use Rattle.literature_entries.specs.declared.entry.Entry.{Entry}
use Rattle.literature.specs.Bindings.{Bound}
use Rattle.literature.specs.Bindings as bindings
use Rattle.literature.specs.BoundNames.{binding_view, index_of}

abbrev Pairs : Type 0
Pairs = List (String Global × Bor Entry)

abbrev IsPlace : Pairs → List ℕ → ℕ → Type 0
IsPlace ps q i = (i < length ps) × ((d : String Global × Bor Entry) → (bytes_eq q (string_bytes (get_or ps i d).0) ≡ true) × (lookup (bytes_eq q) (map binding_view ps) ≡ Some (get_or ps i d).1.now))

no_place : (i : ℕ) → None ≡ Some i → ⊥
no_place i h = cc

zero_is : (i : ℕ) → Some 0 ≡ Some i → 0 ≡ i
zero_is i h = cc

suc_is : (i j : ℕ) → Some (suc j) ≡ Some i → suc j ≡ i
suc_is i j h = cc

place_later : (q : List ℕ) (p : String Global × Bor Entry) (ps : Pairs) (o : Option ℕ) (i : ℕ) → bytes_eq q (string_bytes p.0) ≡ false → option_map suc o ≡ Some i → ((j : ℕ) → o ≡ Some j → IsPlace ps q j) → IsPlace (p ∷ ps) q i
place_later q p ps None i differ is ih = absurd (no_place i is)
place_later q p ps (Some j) i differ is ih =
    let at = ih j refl in
    subst (IsPlace (p ∷ ps) q) (suc_is i j is)
    (omega (arith, at.0), (λ d. ((at.1 d).0, ap (λ b. cond b (Some p.1.now) (lookup (bytes_eq q) (map binding_view ps))) differ ∙ (at.1 d).1)))

place_by : (q : List ℕ) (p : String Global × Bor Entry) (ps : Pairs) (i : ℕ) (b : Bool) → bytes_eq q (string_bytes p.0) ≡ b → cond b (Some 0) (option_map suc (index_of q ps)) ≡ Some i → ((j : ℕ) → index_of q ps ≡ Some j → IsPlace ps q j) → IsPlace (p ∷ ps) q i
place_by q p ps i true same is ih =
    subst (IsPlace (p ∷ ps) q) (zero_is i is)
    (omega arith, (λ d. (same, ap (λ b. cond b (Some p.1.now) (lookup (bytes_eq q) (map binding_view ps))) same)))
place_by q p ps i false differ is ih = place_later q p ps (index_of q ps) i differ is ih

-- what is at the index of a name
pub place : (q : List ℕ) (ps : Pairs) (i : ℕ) → index_of q ps ≡ Some i → IsPlace ps q i
place q [] i is = absurd (no_place i is)
place q (p ∷ ps) i is = place_by q p ps i (bytes_eq q (string_bytes p.0)) refl is (place q ps)

none_later : (b : Bool) (x : Entry) (o : Option ℕ) (r : Option Entry) → cond b (Some 0) (option_map suc o) ≡ None → (o ≡ None → r ≡ None) → cond b (Some x) r ≡ None
none_later true x o r is ih = cc
none_later false x None r is ih = ih refl
none_later false x (Some j) r is ih = cc

-- a name without an index is bound to nothing
pub none_bound : (q : List ℕ) (ps : Pairs) → index_of q ps ≡ None → lookup (bytes_eq q) (map binding_view ps) ≡ None
none_bound q [] is = refl
none_bound q (p ∷ ps) is = none_later (bytes_eq q (string_bytes p.0)) p.1.now (index_of q ps) (lookup (bytes_eq q) (map binding_view ps)) is (none_bound q ps)

-- a pair whose name stays, with another entry
abbrev pub with_entry : String Global × Bor Entry → Bor Entry → String Global × Bor Entry
with_entry p e = (p.0, e)

set_later : (k : List ℕ) (e : Bor Entry) (p : String Global × Bor Entry) (ps : Pairs) (o : Option ℕ) (i : ℕ) (d : String Global × Bor Entry) → option_map suc o ≡ Some i → ((j : ℕ) → o ≡ Some j → map binding_view (set ps j (with_entry (get_or ps j d) e)) ≡ bindings.set (k, e.now) (map binding_view ps))
    → map binding_view (set (p ∷ ps) i (with_entry (get_or (p ∷ ps) i d) e)) ≡ binding_view p ∷ bindings.set (k, e.now) (map binding_view ps)
set_later k e p ps None i d is ih = absurd (no_place i is)
set_later k e p ps (Some j) i d is ih =
    subst (λ n. map binding_view (set (p ∷ ps) n (with_entry (get_or (p ∷ ps) n d) e)) ≡ binding_view p ∷ bindings.set (k, e.now) (map binding_view ps)) (suc_is i j is)
    (ap (λ bs. binding_view p ∷ bs) (ih j refl))

set_by : (k : List ℕ) (e : Bor Entry) (p : String Global × Bor Entry) (ps : Pairs) (i : ℕ) (d : String Global × Bor Entry) (b : Bool) → cond b (Some 0) (option_map suc (index_of k ps)) ≡ Some i
    → ((j : ℕ) → index_of k ps ≡ Some j → map binding_view (set ps j (with_entry (get_or ps j d) e)) ≡ bindings.set (k, e.now) (map binding_view ps))
    → map binding_view (set (p ∷ ps) i (with_entry (get_or (p ∷ ps) i d) e)) ≡ cond b ((string_bytes p.0, e.now) ∷ map binding_view ps) (binding_view p ∷ bindings.set (k, e.now) (map binding_view ps))
set_by k e p ps i d true is ih =
    subst (λ n. map binding_view (set (p ∷ ps) n (with_entry (get_or (p ∷ ps) n d) e)) ≡ (string_bytes p.0, e.now) ∷ map binding_view ps) (zero_is i is) refl
set_by k e p ps i d false is ih = set_later k e p ps (index_of k ps) i d is ih

-- a name that is bound is bound to another entry
pub rebound : (k : List ℕ) (e : Bor Entry) (ps : Pairs) (i : ℕ) (d : String Global × Bor Entry) → index_of k ps ≡ Some i → map binding_view (set ps i (with_entry (get_or ps i d) e)) ≡ bindings.set (k, e.now) (map binding_view ps)
rebound k e [] i d is = absurd (no_place i is)
rebound k e (p ∷ ps) i d is = set_by k e p ps i d (bytes_eq k (string_bytes p.0)) is (λ j. rebound k e ps j d)

-- and all indices stay
pub index_rebound : (q : List ℕ) (e : Bor Entry) (ps : Pairs) (i : ℕ) (d : String Global × Bor Entry) → i < length ps → index_of q (set ps i (with_entry (get_or ps i d) e)) ≡ index_of q ps
index_rebound q e [] i d less = refl
index_rebound q e (p ∷ ps) zero d less = refl
index_rebound q e (p ∷ ps) (suc i) d less = ap (λ o. cond (bytes_eq q (string_bytes p.0)) (Some 0) (option_map suc o)) (index_rebound q e ps i d (omega (arith, less)))

put_later : (b : Bool) (c : List ℕ × Entry) (o : Option ℕ) (cs more : Bound) (x : List ℕ × Entry) → cond b (Some 0) (option_map suc o) ≡ None → (o ≡ None → more ≡ cs ++ x ∷ []) → cond b ((c.0, x.1) ∷ cs) (c ∷ more) ≡ c ∷ cs ++ x ∷ []
put_later true c o cs more x is ih = cc
put_later false c None cs more x is ih = ap (λ bs. c ∷ bs) (ih refl)
put_later false c (Some j) cs more x is ih = cc

-- a name that is not bound is bound last
pub bound_last : (k : List ℕ) (e : Entry) (ps : Pairs) → index_of k ps ≡ None → bindings.set (k, e) (map binding_view ps) ≡ map binding_view ps ++ (k, e) ∷ []
bound_last k e [] is = refl
bound_last k e (p ∷ ps) is =
    put_later (bytes_eq k (string_bytes p.0)) (binding_view p) (index_of k ps) (map binding_view ps) (bindings.set (k, e) (map binding_view ps)) (k, e) is (bound_last k e ps)

index_other : (q : List ℕ) (ps : Pairs) (p : String Global × Bor Entry) → bytes_eq q (string_bytes p.0) ≡ false → index_of q (ps ++ p ∷ []) ≡ index_of q ps
index_other q [] p apart = ap (λ b. cond b (Some 0) None) apart
index_other q (x ∷ ps) p apart = ap (λ o. cond (bytes_eq q (string_bytes x.0)) (Some 0) (option_map suc o)) (index_other q ps p apart)

own_later : (b : Bool) (o r : Option ℕ) (n : ℕ) → cond b (Some 0) (option_map suc o) ≡ None → (o ≡ None → r ≡ Some n) → cond b (Some 0) (option_map suc r) ≡ Some (suc n)
own_later true o r n is ih = cc
own_later false None r n is ih = ap (option_map suc) (ih refl)
own_later false (Some j) r n is ih = cc

index_own : (k : List ℕ) (ps : Pairs) (p : String Global × Bor Entry) → string_bytes p.0 ≡ k → index_of k ps ≡ None → index_of k (ps ++ p ∷ []) ≡ Some (length ps)
index_own k [] p same is = ap (λ b. cond b (Some 0) None) ((bytes_decides k (string_bytes p.0)).1 (sym same))
index_own k (x ∷ ps) p same is = own_later (bytes_eq k (string_bytes x.0)) (index_of k ps) (index_of k (ps ++ p ∷ [])) (length ps) is (index_own k ps p same)

-- the index of a name after one was bound last
pub index_last : (k q : List ℕ) (ps : Pairs) (p : String Global × Bor Entry) → string_bytes p.0 ≡ k → index_of k ps ≡ None → index_of q (ps ++ p ∷ []) ≡ cond (bytes_eq k q) (Some (length ps)) (index_of q ps)
index_last k q ps p named new = by_name (bytes_eq k q) refl
  where
    by_name : (b : Bool) → bytes_eq k q ≡ b → index_of q (ps ++ p ∷ []) ≡ cond b (Some (length ps)) (index_of q ps)
    by_name true same = subst (λ r. index_of r (ps ++ p ∷ []) ≡ Some (length ps)) ((bytes_decides k q).0 same) (index_own k ps p named new)
    by_name false apart = index_other q ps p (ap (bytes_eq q) named ∙ (nat_list_eq_equiv.symm q k ∙ apart))
