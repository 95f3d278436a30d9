-- One more cite, and how entries stand after it.
use Rattle.std.proofs.Common.{◌≡◌, ◌⊎◌, ℕ, ◌+◌, ◌<◌, Bool, true, false, cond, ◌||◌, nat_eq, List, [], ◌∷◌, ◌++◌, map, length, get_or, set, take, refl, sym, ap, ap₂, subst, ◌∙◌, inl, inr, eq-eqb, ne_eqb, zero-add}
use Rattle.std.specs.List.{enumerate_from}
use Rattle.std.proofs.lemmas.List.{get_or-set_same, get_or-set_other, take_more, map-append}
use Rattle.std.proofs.lemmas.List.FromFn.{get_or-enumerate_from, length-enumerate_from}
use Rattle.std.proofs.lemmas.List.Folds.{list_any-append}
use Rattle.std.proofs.lemmas.Bool.{cases_eq}
use Rattle.driver_requests.specs.History.{is_among, cited_in, cited_by_note, noted_in}
use Rattle.driver_requests.specs.declared.history.History.{History}

or_false : (b : Bool) → (b || false) ≡ b
or_false true = refl
or_false false = refl

or_true : (b : Bool) → (b || true) ≡ true
or_true true = refl
or_true false = refl

or_assoc : (a b c : Bool) → ((a || b) || c) ≡ (a || (b || c))
or_assoc true b c = refl
or_assoc false b c = refl

or_swap : (a b : Bool) → (a || b) ≡ (b || a)
or_swap true b = sym (or_true b)
or_swap false b = sym (or_false b)

-- the same with that specified for whether it is cited
abbrev pub with_cited : History → Bool → History
with_cited s b = record s { is_cited = b }

cite_cases : (xs : List History) (d x : History) (entry q : ℕ) → entry < length xs → x ≡ record (get_or xs entry d) { is_cited = true }
    → (q ≡ entry) ⊎ (q ≡ entry → ⊥)
    → get_or (set xs entry x) q d ≡ cited_in (entry ∷ []) q (get_or xs q d)
cite_cases xs d x entry q there is (inl e) =
    subst (λ z. get_or (set xs entry x) z d ≡ cited_in (entry ∷ []) z (get_or xs z d)) (sym e)
    (get_or-set_same xs entry x d there ∙ is
    ∙ ap (with_cited (get_or xs entry d)) (sym (ap (λ b. (get_or xs entry d).is_cited || (b || false)) (eq-eqb entry entry refl) ∙ or_true (get_or xs entry d).is_cited)))
cite_cases xs d x entry q there is (inr ne) =
    get_or-set_other xs entry q x d ne
    ∙ ap (with_cited (get_or xs q d)) (sym (ap (λ b. (get_or xs q d).is_cited || (b || false)) (ne_eqb entry q (λ e. ne (sym e))) ∙ or_false (get_or xs q d).is_cited))

-- the entry at an index is cited
pub cite_written : (xs : List History) (d x : History) (entry q : ℕ) → entry < length xs → x ≡ record (get_or xs entry d) { is_cited = true }
    → get_or (set xs entry x) q d ≡ cited_in (entry ∷ []) q (get_or xs q d)
cite_written xs d x entry q there is = cite_cases xs d x entry q there is (cases_eq q entry)

note_cases : (xs : List History) (d x : History) (index number entry q : ℕ) → entry < length xs → x ≡ cited_by_note index number (get_or xs entry d)
    → (q ≡ entry) ⊎ (q ≡ entry → ⊥)
    → get_or (set xs entry x) q d ≡ noted_in index number (entry ∷ []) q (get_or xs q d)
note_cases xs d x index number entry q there is (inl e) =
    subst (λ z. get_or (set xs entry x) z d ≡ noted_in index number (entry ∷ []) z (get_or xs z d)) (sym e)
    (get_or-set_same xs entry x d there ∙ is
    ∙ sym (ap (λ b. cond (b || false) (cited_by_note index number (get_or xs entry d)) (get_or xs entry d)) (eq-eqb entry entry refl)))
note_cases xs d x index number entry q there is (inr ne) =
    get_or-set_other xs entry q x d ne
    ∙ sym (ap (λ b. cond (b || false) (cited_by_note index number (get_or xs q d)) (get_or xs q d)) (ne_eqb entry q (λ e. ne (sym e))))

-- the entry at an index is cited in a note
pub note_written : (xs : List History) (d x : History) (index number entry q : ℕ) → entry < length xs → x ≡ cited_by_note index number (get_or xs entry d)
    → get_or (set xs entry x) q d ≡ noted_in index number (entry ∷ []) q (get_or xs q d)
note_written xs d x index number entry q there is = note_cases xs d x index number entry q there is (cases_eq q entry)

among_more : (entries : List ℕ) (entry q : ℕ) → (is_among entries q || is_among (entry ∷ []) q) ≡ is_among (entries ++ entry ∷ []) q
among_more entries entry q = sym (list_any-append (λ p. nat_eq p q) entries (entry ∷ []))

-- one more item
pub cited_more : (entries : List ℕ) (i q : ℕ) (s : History) → i < length entries → cited_in (get_or entries i 0 ∷ []) q (cited_in (take i entries) q s) ≡ cited_in (take (i + 1) entries) q s
cited_more entries i q s h =
    ap (with_cited s) (or_assoc s.is_cited (is_among (take i entries) q) (is_among (get_or entries i 0 ∷ []) q) ∙ ap (λ b. s.is_cited || b) (among_more (take i entries) (get_or entries i 0) q))
    ∙ ap (λ ps. cited_in ps q s) (sym (take_more entries i 0 h))

noted_twice : (index n : ℕ) (s : History) → cited_by_note index n (cited_by_note index n s) ≡ cited_by_note index n s
noted_twice index n s = refl

noted_cases : (index n : ℕ) (a b : Bool) (s : History)
    → cond b (cited_by_note index n (cond a (cited_by_note index n s) s)) (cond a (cited_by_note index n s) s) ≡ cond (a || b) (cited_by_note index n s) s
noted_cases index n true true s = noted_twice index n s
noted_cases index n true false s = refl
noted_cases index n false true s = refl
noted_cases index n false false s = refl

-- one more item of a note
pub noted_more : (index n : ℕ) (entries : List ℕ) (i q : ℕ) (s : History) → i < length entries
    → noted_in index n (get_or entries i 0 ∷ []) q (noted_in index n (take i entries) q s) ≡ noted_in index n (take (i + 1) entries) q s
noted_more index n entries i q s h =
    noted_cases index n (is_among (take i entries) q) (is_among (get_or entries i 0 ∷ []) q) s
    ∙ ap (λ b. cond b (cited_by_note index n s) s) (among_more (take i entries) (get_or entries i 0) q)
    ∙ ap (λ ps. noted_in index n ps q s) (sym (take_more entries i 0 h))

-- what is known of one more cite
pub fact_more : {X Y : Type 0} (view : X → Y) (f : ℕ × ℕ → Y) (entries : List ℕ) (i : ℕ) (xs : List X) (x : X) → i < length entries
    → map view xs ≡ map f (take i (enumerate_from 0 entries)) → view x ≡ f (i, get_or entries i 0)
    → map view (xs ++ x ∷ []) ≡ map f (take (i + 1) (enumerate_from 0 entries))
fact_more view f entries i xs x h before is =
    let within : i < length (enumerate_from 0 entries) = rw (length-enumerate_from 0 entries) h in
    let one : get_or (enumerate_from 0 entries) i (0, 0) ≡ (i, get_or entries i 0) = get_or-enumerate_from 0 entries i (0, 0) h ∙ ap (λ n. (n, get_or entries i 0)) (zero-add i) in
    map-append view xs (x ∷ [])
    ∙ ap₂ (λ ys y. ys ++ y ∷ []) before is
    ∙ sym (ap (map f) (take_more (enumerate_from 0 entries) i (0, 0) within ∙ ap (λ p. take i (enumerate_from 0 entries) ++ p ∷ []) one)
    ∙ map-append f (take i (enumerate_from 0 entries)) ((i, get_or entries i 0) ∷ []))
