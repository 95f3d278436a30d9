-- Indices of entries, while more entries are read.
use Rattle.std.proofs.Common.{◌≡◌, ℕ, suc, ◌+◌, ◌<◌, Bool, nat_lt, true, false, not, cond, ◌||◌, List, [], ◌∷◌, ◌++◌, length, refl, sym, ap, ◌∙◌, Some, None, arith, zero-add, ltb-true, ltb-false, lt-ltb, le-ltb}
use Rattle.std.specs.Prelude.{position}
use Rattle.std.specs.Borrow.{Bor}
use Rattle.std.specs.Cmp.{IsEquivalence}
use Rattle.std.specs.List.{list_any, position_or_len}
use Rattle.std.proofs.Math.Path.{fun_ext}
use Rattle.std.proofs.lemmas.List.{length-map, map-append}
use Rattle.std.proofs.lemmas.List.Folds.{list_any-append}
use Rattle.laws.specs.Borrowed.{borrowed}
use Rattle.driver_requests.specs.Indices.{pushed, grown, index_in}

stays_step : (t a : Bool) (m n : ℕ) → (t || a) ≡ true → (a ≡ true → m ≡ n) → cond (not t) (1 + m) 0 ≡ cond (not t) (1 + n) 0
stays_step true a m n h ih = refl
stays_step false a m n h ih = ap (λ k. 1 + k) (ih h)

-- where one passes already, more change nothing
pub index_stays : {K : Type 0} (p : K → Bool) (xs ys : List K) → list_any p xs ≡ true → position_or_len p (xs ++ ys) ≡ position_or_len p xs
index_stays p [] ys h = cc
index_stays p (x ∷ xs) ys h = stays_step (p x) (list_any p xs) _ _ h (index_stays p xs ys)

past_step : (t a : Bool) (m n l : ℕ) → (t || a) ≡ false → (a ≡ false → m ≡ n + l) → cond (not t) (1 + m) 0 ≡ 1 + n + l
past_step true a m n l h ih = cc
past_step false a m n l h ih = omega (arith, ih h)

-- where none passes yet, the index is among the others
pub index_past : {K : Type 0} (p : K → Bool) (xs ys : List K) → list_any p xs ≡ false → position_or_len p (xs ++ ys) ≡ length xs + position_or_len p ys
index_past p [] ys h = sym (zero-add (position_or_len p ys))
index_past p (x ∷ xs) ys h = past_step (p x) (list_any p xs) _ (length xs) (position_or_len p ys) h (index_past p xs ys) ∙ omega arith

-- one that passes is there
pub at_first : (t : Bool) (n : ℕ) → t ≡ true → n + cond (not t) 1 0 ≡ n
at_first true n h = omega arith
at_first false n h = cc

-- a new one is last
pub index_new : {K : Type 0} {eq : K → K → Bool} (laws : IsEquivalence eq) (es : List K) (e : K) → list_any (eq e) es ≡ false → length es ≡ position_or_len (eq e) (es ++ e ∷ [])
index_new {eq = eq} laws es e h = sym (index_past (eq e) es (e ∷ []) h ∙ at_first (eq e e) (length es) (laws.refl e))

-- what a look-up finds
pub found : (b : Bool) (m n : ℕ) → cond b (Some m) None ≡ Some n → (b ≡ true) × (m ≡ n)
found true m n h = (refl, cc)
found false m n h = cc

-- what a look-up does not find
pub missed : (b : Bool) (m : ℕ) → cond b (Some m) None ≡ None → b ≡ false
missed true m h = cc
missed false m h = refl

-- one that is there is not put last
pub pushed_old : {K : Type 0} (eq : K → K → Bool) (es : List K) (e : K) → list_any (eq e) es ≡ true → pushed eq es e ≡ es
pushed_old eq es e h = rw h refl

-- one that is not there is
pub pushed_new : {K : Type 0} (eq : K → K → Bool) (es : List K) (e : K) → list_any (eq e) es ≡ false → pushed eq es e ≡ es ++ e ∷ []
pushed_new eq es e h = rw h refl

-- equal entries pass the same tests
same_test : {K : Type 0} {eq : K → K → Bool} (laws : IsEquivalence eq) (e q : K) → eq e q ≡ true → eq q ≡ eq e
same_test laws e q h = fun_ext (λ x. sym (laws.congr e q x h))

-- one that does not pass changes nothing
pub others_found : {K : Type 0} (p : K → Bool) (es : List K) (e : K) (b : Bool) → p e ≡ false → list_any p es ≡ b → index_in p es ≡ index_in p (es ++ e ∷ [])
others_found p es e true apart h =
    rw (list_any-append p es (e ∷ []), h, index_stays p es (e ∷ []) h) refl
others_found p es e false apart h =
    rw (list_any-append p es (e ∷ []), h, apart) refl

-- an index among entries with a new one last
pub found_step : {K : Type 0} {eq : K → K → Bool} (laws : IsEquivalence eq) (es : List K) (e q : K) (t : Bool) → list_any (eq e) es ≡ false → eq e q ≡ t
    → cond t (Some (length es)) (index_in (eq q) es) ≡ index_in (eq q) (es ++ e ∷ [])
found_step {eq = eq} laws es e q true new h =
    rw (same_test laws e q h, list_any-append (eq e) es (e ∷ []), new, laws.refl e, sym (index_new laws es e new)) refl
found_step {eq = eq} laws es e q false new h = others_found (eq q) es e (list_any (eq q) es) (laws.symm q e ∙ h) refl

kept_step : {K : Type 0} (eq : K → K → Bool) (e : K) (es : List K) (y : K) (ys : List K) (b : Bool) → list_any (eq e) es ≡ true
    → ((fs : List K) → list_any (eq e) fs ≡ true → position_or_len (eq e) (grown eq fs ys) ≡ position_or_len (eq e) fs)
    → position_or_len (eq e) (grown eq (cond b es (es ++ y ∷ [])) ys) ≡ position_or_len (eq e) es
kept_step eq e es y ys true h ih = ih es h
kept_step eq e es y ys false h ih = ih (es ++ y ∷ []) (rw (list_any-append (eq e) es (y ∷ []), h) refl) ∙ index_stays (eq e) es (y ∷ []) h

-- an index stays while more entries are read
pub index_kept : {K : Type 0} (eq : K → K → Bool) (e : K) (ys es : List K) → list_any (eq e) es ≡ true → position_or_len (eq e) (grown eq es ys) ≡ position_or_len (eq e) es
index_kept eq e [] es h = refl
index_kept eq e (y ∷ ys) es h = kept_step eq e es y ys (list_any (eq y) es) h (index_kept eq e ys)

below_step : (t a : Bool) (m n : ℕ) → (t || a) ≡ true → (a ≡ true → m < n) → cond (not t) (1 + m) 0 < suc n
below_step true a m n h ih = omega arith
below_step false a m n h ih = omega (arith, ih h)

any_later : (m n : ℕ) (b : Bool) → nat_lt m n ≡ b → b ≡ nat_lt (1 + m) (suc n)
any_later m n true h = sym (lt-ltb (1 + m) (suc n) (omega (arith, ltb-true m n h)))
any_later m n false h = sym (le-ltb (1 + m) (suc n) (omega (arith, ltb-false m n h)))

any_step : (t a : Bool) (m n : ℕ) → a ≡ nat_lt m n → (t || a) ≡ nat_lt (cond (not t) (1 + m) 0) (suc n)
any_step true a m n h = sym (lt-ltb 0 (suc n) (omega arith))
any_step false a m n h = h ∙ any_later m n (nat_lt m n) refl

-- one more entry, borrowed
pub lent_more : {T : Type 0} (items more : List (Bor T)) (e : Bor T) → more ≡ items ++ e ∷ [] → borrowed more ≡ borrowed items ++ e.now ∷ []
lent_more {T} items more e is = ap (λ (bs : List (Bor T)). borrowed bs) is ∙ map-append (λ (b : Bor T). b.now) items (e ∷ [])

-- one that passes has an index
pub index_below : {K : Type 0} (p : K → Bool) (xs : List K) → list_any p xs ≡ true → position_or_len p xs < length xs
index_below p [] h = cc
index_below p (x ∷ xs) h = below_step (p x) (list_any p xs) _ (length xs) h (index_below p xs)

-- the entries after one more
pub entries_pushed : {T : Type 0} (eq : T → T → Bool) (items more : List (Bor T)) (e : Bor T) → list_any (eq e.now) (borrowed items) ≡ false → more ≡ items ++ e ∷ []
    → borrowed more ≡ pushed eq (borrowed items) e.now
entries_pushed eq items more e apart is = lent_more items more e is ∙ sym (pushed_new eq (borrowed items) e.now apart)

-- its index
pub index_of_pushed : {T : Type 0} {eq : T → T → Bool} (laws : IsEquivalence eq) (items more : List (Bor T)) (e : Bor T) (n : ℕ) → list_any (eq e.now) (borrowed items) ≡ false
    → n ≡ length items → more ≡ items ++ e ∷ []
    → n ≡ position_or_len (eq e.now) (borrowed more)
index_of_pushed {T} {eq = eq} laws items more e n apart len is =
    len ∙ sym (length-map items (λ (b : Bor T). b.now)) ∙ index_new laws (borrowed items) e.now apart ∙ ap (position_or_len (eq e.now)) (sym (lent_more items more e is))

-- whether one passes says whether it has an index
pub any_position : {K : Type 0} (p : K → Bool) (xs : List K) → list_any p xs ≡ nat_lt (position_or_len p xs) (length xs)
any_position p [] = refl
any_position p (x ∷ xs) = any_step (p x) (list_any p xs) _ (length xs) (any_position p xs)

-- the index of the first that passes, as std has it
pub index_in_is : {K : Type 0} (p : K → Bool) (xs : List K) → index_in p xs ≡ position p xs
index_in_is p xs = ap (λ b. cond b (Some (position_or_len p xs)) None) (any_position p xs)
