-- One entry is resolved where it stands.
use Rattle.std.proofs.Common.{◌≡◌, ℕ, zero, suc, ◌<◌, List, [], ◌∷◌, length, get_or, slice_get, set, Contains, Option, Some, None, true, string_bytes, refl, sym, ap, subst, ◌∙◌, arith}
use Rattle.std.specs.Prelude.{if◌then◌else◌, MatchOption, is_some}
use Rattle.std.proofs.lemmas.List.{get_or-set_same, get_or_default}
use Rattle.biblatex_fields.specs.Fields.{AreInOrder, Named}
use Rattle.biblatex_entries.specs.TypeNames.{type_name}
use Rattle.biblatex_entries.specs.Roles.{role_of}
use Rattle.biblatex_entries.specs.declared.entry.Entry.{Entry}
use Rattle.biblatex_entries.specs.declared.role.Role.{Role}
use Rattle.biblatex_inheritance.specs.declared.error.DateFault.{DateFault}
use Rattle.biblatex_inheritance.specs.Resolved.{Offer, first, first_offer, dated, date_for, needs_date, first_fault, without_xdata}
use Rattle.biblatex_inheritance.specs.Views.{table_view, IsTable, offers_in}
use Rattle.biblatex_inheritance.specs.Solution.{IsFirstFault, IsResolvedAt}

pub slice_get-set_other : {X : Type 0} (xs : List X) (n i : ℕ) (x : X) → (i ≡ n → ⊥) → slice_get (set xs n x) i ≡ slice_get xs i
slice_get-set_other [] n i x other = refl
slice_get-set_other (y ∷ xs) zero zero x other = absurd (other refl)
slice_get-set_other (y ∷ xs) zero (suc i) x other = refl
slice_get-set_other (y ∷ xs) (suc n) zero x other = refl
slice_get-set_other (y ∷ xs) (suc n) (suc i) x other = slice_get-set_other xs n i x (λ e. other (ap suc e))

pub slice_get-set_same : {X : Type 0} (xs : List X) (n : ℕ) (x : X) → n < length xs → slice_get (set xs n x) n ≡ Some x
slice_get-set_same [] n x low = absurd (omega arith)
slice_get-set_same (y ∷ xs) zero x low = refl
slice_get-set_same (y ∷ xs) (suc n) x low = slice_get-set_same xs n x (omega arith)

set_twice : {X : Type 0} (xs : List X) (n : ℕ) (x y : X) → set (set xs n x) n y ≡ set xs n y
set_twice [] n x y = refl
set_twice (z ∷ xs) zero x y = refl
set_twice (z ∷ xs) (suc n) x y = ap (λ ys. z ∷ ys) (set_twice xs n x y)

-- a fault is the first, where none stands before it
pub found_first : (faults : List (Option DateFault)) (i : ℕ) (o : Option DateFault) → is_some o ≡ true → slice_get faults i ≡ Some o → ((k : ℕ) → k < i → slice_get faults k ≡ Some None)
    → MatchOption o ((k : ℕ) → k < length faults → slice_get faults k ≡ Some None) (λ f. IsFirstFault faults f)
found_first faults i None some is before = absurd cc
found_first faults i (Some f) some is before = (i, is, before)

pub contains_first : (r : ℕ) (rs : List ℕ) → Contains (r ∷ rs) r
contains_first r rs = (0, omega arith, refl)

pub contains_later : (r x : ℕ) (rs : List ℕ) → Contains rs x → Contains (r ∷ rs) x
contains_later r x rs (k, low, is) = (suc k, omega arith, is)

-- what others offer stays
pub offers_apart : (es : List Entry) (n : ℕ) (w : Entry) (rs : List ℕ) → (Contains rs n → ⊥) → offers_in (set es n w) rs ≡ offers_in es rs
offers_apart es n w [] apart = refl
offers_apart es n w (r ∷ rs) apart =
    let here = slice_get-set_other es n r w (λ e. apart (subst (λ (x : ℕ). Contains (r ∷ rs) x) e (contains_first r rs))) in
    rw (here, offers_apart es n w rs (λ c. apart (contains_later r n rs c))) refl

-- the fields are taken out of their entry, become those of the resolved one, and are put back
pub put_back : (old mid : List Entry) (n : ℕ) (e m m2 : Entry) (role : Role) (emptied taken fs : List Named) (rs : List ℕ) (fault : Option DateFault) → n < length old → (Contains rs n → ⊥)
    → e ≡ get_or old n e → m ≡ get_or old n m
    → m2 ≡ get_or (set old n (record { key = m.key; entry_type = m.entry_type; fields = emptied })) n m2
    → mid ≡ set old n (record { key = m.key; entry_type = m.entry_type; fields = emptied })
    → taken ≡ m.fields → role ≡ role_of (type_name e.entry_type)
    → IsTable fs (dated (date_for role (offers_in mid rs)) (λ name. first (without_xdata (table_view taken) name) (first_offer role (offers_in mid rs) name)))
    → fault ≡ (if needs_date role then first_fault (offers_in mid rs) else None) → AreInOrder fs
    → IsResolvedAt old (set (set old n (record { key = m.key; entry_type = m.entry_type; fields = emptied })) n (record { key = m2.key; entry_type = m2.entry_type; fields = fs })) n (offers_in old rs) fault
put_back old mid n e m m2 role emptied taken fs rs fault low apart e_is m_is m2_is mid_is taken_is role_is resolved_is fault_is ordered =
    let w : Entry = record { key = m.key; entry_type = m.entry_type; fields = emptied } in
    let d : Entry = record { key = m2.key; entry_type = m2.entry_type; fields = fs } in
    let m2_w : m2 ≡ w = m2_is ∙ get_or-set_same old n w m2 low in
    let there : get_or old n d ≡ m = get_or_default old n d m low ∙ sym m_is in
    let e_m : e ≡ m = e_is ∙ (get_or_default old n e m low ∙ sym m_is) in
    let role_m : role ≡ role_of (type_name m.entry_type) = role_is ∙ ap (λ (x : Entry). role_of (type_name x.entry_type)) e_m in
    let os : offers_in mid rs ≡ offers_in old rs = ap (λ (es : List Entry). offers_in es rs) mid_is ∙ offers_apart old n w rs apart in
    let fields_m : IsTable fs (dated (date_for (role_of (type_name m.entry_type)) (offers_in old rs)) (λ name. first (without_xdata (table_view m.fields) name) (first_offer (role_of (type_name m.entry_type)) (offers_in old rs) name))) =
    subst (λ (os : List Offer). IsTable fs (dated (date_for (role_of (type_name m.entry_type)) os) (λ name. first (without_xdata (table_view m.fields) name) (first_offer (role_of (type_name m.entry_type)) os name)))) os
    (subst (λ (r : Role). IsTable fs (dated (date_for r (offers_in mid rs)) (λ name. first (without_xdata (table_view m.fields) name) (first_offer r (offers_in mid rs) name)))) role_m
    (subst (λ (fields : List Named). IsTable fs (dated (date_for role (offers_in mid rs)) (λ name. first (without_xdata (table_view fields) name) (first_offer role (offers_in mid rs) name)))) taken_is resolved_is)) in
    let fault_m : fault ≡ (if needs_date (role_of (type_name m.entry_type)) then first_fault (offers_in old rs) else None) =
    subst (λ (os : List Offer). fault ≡ (if needs_date (role_of (type_name m.entry_type)) then first_fault os else None)) os
    (subst (λ (r : Role). fault ≡ (if needs_date r then first_fault (offers_in mid rs) else None)) role_m fault_is) in
    (d, set_twice old n w d, rw there (ap (λ (x : Entry). string_bytes x.key) m2_w, ap (λ (x : Entry). type_name x.entry_type) m2_w, fields_m, ordered), rw there fault_m)
