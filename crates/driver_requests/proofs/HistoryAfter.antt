-- How an entry stands after one more request, and whether an earlier note is near.
use Rattle.std.proofs.Common.{◌≡◌, ◌⊎◌, ℕ, zero, suc, ◌+◌, ◌-◌, ◌<◌, ◌≤◌, Bool, true, false, cond, ◌||◌, nat_le, nat_lt, List, [], ◌∷◌, ◌++◌, length, drop, refl, sym, ap, ap₂, ◌∙◌, inl, inr, Option, Some, None, is_some, arith, add-zero, leb-true, le-leb, ltb-true, ltb-false}
use Rattle.std.specs.Prelude.{filter_map, slice_get}
use Rattle.std.specs.List.{list_any, cons_option}
use Rattle.std.specs.Option.{option_map_or, unwrap_or}
use Rattle.std.proofs.Math.Path.{fun_ext}
use Rattle.std.proofs.lemmas.Bool.Decides.{same_from_decides, Decides-like}
use Rattle.std.proofs.lemmas.List.Folds.{list_any-append}
use Rattle.driver_requests.specs.History.{is_among, cited_in, cited_by_note, noted_if, is_within}
use Rattle.driver_requests.specs.declared.history.History.{History}

-- the index of the last that passes, counted from a number on, or what was found before
abbrev pub last_from : {R : Type 0} → (R → Bool) → ℕ → List R → Option ℕ → Option ℕ
last_from test k [] found = found
last_from test k (r ∷ rs) found = last_from test (k + 1) rs (cond (test r) (Some k) found)

-- the number of the note of a request that cites an entry
abbrev pub citing : {R : Type 0} → (R → Bool) → (R → Option ℕ) → R → Option ℕ
citing holds number r = cond (holds r) (number r) None

-- how an entry stands after requests
abbrev pub history_after : {R : Type 0} → (R → Bool) → (R → Option ℕ) → List R → History
history_after holds number rs = record {
  is_cited = list_any holds rs;
  first_note = slice_get (filter_map (citing holds number) rs) 0;
  last_note = last_from (λ r. is_some (citing holds number r)) 0 rs None;
}

abbrev next_first : Option ℕ → Option ℕ → Option ℕ
next_first first None = first
next_first first (Some n) = Some (unwrap_or first n)

abbrev next_last : ℕ → Option ℕ → Option ℕ → Option ℕ
next_last k last None = last
next_last k last (Some n) = Some k

first_of_one : (o : Option ℕ) → slice_get (cons_option o []) 0 ≡ next_first None o
first_of_one None = refl
first_of_one (Some n) = refl

first_step : (o p : Option ℕ) (xs ys : List ℕ) → slice_get xs 0 ≡ next_first (slice_get ys 0) p → slice_get (cons_option o xs) 0 ≡ next_first (slice_get (cons_option o ys) 0) p
first_step None p xs ys h = h
first_step (Some n) None xs ys h = refl
first_step (Some n) (Some m) xs ys h = refl

first_more : {R : Type 0} (f : R → Option ℕ) (rs : List R) (r : R) → slice_get (filter_map f (rs ++ r ∷ [])) 0 ≡ next_first (slice_get (filter_map f rs) 0) (f r)
first_more f [] r = first_of_one (f r)
first_more f (x ∷ rs) r = first_step (f x) (f r) (filter_map f (rs ++ r ∷ [])) (filter_map f rs) (first_more f rs r)

last_of_one : (k : ℕ) (found : Option ℕ) (o : Option ℕ) → cond (is_some o) (Some k) found ≡ next_last k found o
last_of_one k found None = refl
last_of_one k found (Some n) = refl

last_more : {R : Type 0} (f : R → Option ℕ) (rs : List R) (r : R) (k : ℕ) (found : Option ℕ)
    → last_from (λ x. is_some (f x)) k (rs ++ r ∷ []) found ≡ next_last (k + length rs) (last_from (λ x. is_some (f x)) k rs found) (f r)
last_more f [] r k found = last_of_one k found (f r) ∙ ap (λ n. next_last n found (f r)) (sym (add-zero k))
last_more f (x ∷ rs) r k found =
    last_more f rs r (k + 1) (cond (is_some (f x)) (Some k) found)
    ∙ ap (λ n. next_last n (last_from (λ y. is_some (f y)) (k + 1) rs (cond (is_some (f x)) (Some k) found)) (f r)) (omega arith)

or_false : (b : Bool) → (b || false) ≡ b
or_false true = refl
or_false false = refl

noted_by : ℕ → Option ℕ → Bool → History → History
noted_by k None h s = s
noted_by k (Some n) h s = cond h (cited_by_note k n s) s

noted_as : (k : ℕ) (number : Option ℕ) (entries : List ℕ) (q : ℕ) (s : History) → noted_by k number (is_among entries q) s ≡ noted_if k number entries q s
unfolding noted_by
noted_as k None entries q s = refl
noted_as k (Some n) entries q s = refl

joined : (k : ℕ) (number : Option ℕ) (h c : Bool) (first last : Option ℕ)
    → record { is_cited = c || h; first_note = next_first first (cond h number None); last_note = next_last k last (cond h number None) }
    ≡ noted_by k number h (record { is_cited = c || h; first_note = first; last_note = last })
unfolding noted_by
joined k None true c first last = refl
joined k None false c first last = refl
joined k (Some n) true c first last = refl
joined k (Some n) false c first last = refl

-- one more request
pub history_more : {R : Type 0} (holds : R → Bool) (number : R → Option ℕ) (entries : R → List ℕ) (q : ℕ) (rs : List R) (r : R) → holds r ≡ is_among (entries r) q
    → history_after holds number (rs ++ r ∷ []) ≡ noted_if (length rs) (number r) (entries r) q (cited_in (entries r) q (history_after holds number rs))
history_more {R} holds number entries q rs r is =
    let old : History = history_after holds number rs in
    let cited : list_any holds (rs ++ r ∷ []) ≡ (list_any holds rs || holds r) = list_any-append holds rs (r ∷ []) ∙ ap (λ b. list_any holds rs || b) (or_false (holds r)) in
    let first : slice_get (filter_map (citing holds number) (rs ++ r ∷ [])) 0 ≡ next_first old.first_note (citing holds number r) = first_more (citing holds number) rs r in
    let last : last_from (λ x. is_some (citing holds number x)) 0 (rs ++ r ∷ []) None ≡ next_last (length rs) old.last_note (citing holds number r) =
    last_more (citing holds number) rs r 0 None ∙ ap (λ n. next_last n old.last_note (citing holds number r)) (omega arith) in
    (λ i. record { is_cited = cited i; first_note = first i; last_note = last i })
    ∙ joined (length rs) (number r) (holds r) (list_any holds rs) old.first_note old.last_note
    ∙ ap (λ b. noted_by (length rs) (number r) b (record { is_cited = list_any holds rs || b; first_note = old.first_note; last_note = old.last_note })) is
    ∙ noted_as (length rs) (number r) (entries r) q (cited_in (entries r) q old)

-- whether what was found is not before an index
abbrev is_from : ℕ → Option ℕ → Bool
is_from at found = option_map_or (λ l. nat_le at l) found false

late_step : (at k : ℕ) (t a : Bool) (found : Option ℕ) → at ≤ k → (a || is_from at (cond t (Some k) found)) ≡ ((t || a) || is_from at found)
late_step at k true true found h = refl
late_step at k true false found h = le-leb at k h
late_step at k false a found h = refl

less_none : (n : ℕ) → n - 0 ≡ n
less_none n = omega arith

next : (at k : ℕ) → k < at → at - k ≡ suc (at - (k + 1))
next at k h = omega (arith, h)

nothing : (at k : ℕ) → at ≤ k → at - k ≡ 0
nothing at k h = omega (arith, h)

clash : (at k : ℕ) → k < at → at ≤ k → ⊥
clash at k h g = omega (arith, h, g)

not_late : (at k : ℕ) → k < at → (b : Bool) → nat_le at k ≡ b → b ≡ false
not_late at k h true e = absurd (clash at k h (leb-true at k e))
not_late at k h false e = refl

early_found : (at k : ℕ) (t : Bool) (found : Option ℕ) → k < at → is_from at found ≡ false → is_from at (cond t (Some k) found) ≡ false
early_found at k true found h none = not_late at k h (nat_le at k) refl
early_found at k false found h none = none

none_left : {R : Type 0} (test : R → Bool) (n : ℕ) → list_any test (drop n []) ≡ false
none_left test zero = refl
none_left test (suc n) = refl

-- nothing was found, or what is found now is not before the index
abbrev IsEarly : ℕ → ℕ → Option ℕ → Type 0
IsEarly at k found = (at ≤ k) ⊎ ((k ≤ at) × (is_from at found ≡ false))

early : (at k : ℕ) (found : Option ℕ) → k < at → IsEarly at k found → is_from at found ≡ false
early at k found h (inl g) = absurd (clash at k h g)
early at k found h (inr p) = p.1

found_step : {R : Type 0} (test : R → Bool) (at : ℕ) (r : R) (rs : List R) (k : ℕ) (found : Option ℕ) → IsEarly at k found
    → ((f : Option ℕ) → IsEarly at (k + 1) f → is_from at (last_from test (k + 1) rs f) ≡ (list_any test (drop (at - (k + 1)) rs) || is_from at f))
    → (b : Bool) → nat_lt k at ≡ b
    → is_from at (last_from test (k + 1) rs (cond (test r) (Some k) found)) ≡ (list_any test (drop (at - k) (r ∷ rs)) || is_from at found)
found_step test at r rs k found h ih true e =
    let lt : k < at = ltb-true k at e in
    let none = early at k found lt h in
    let now = early_found at k (test r) found lt none in
    ih (cond (test r) (Some k) found) (inr (omega (arith, lt), now))
    ∙ ap₂ (λ xs b. list_any test xs || b) (sym (ap (λ n. drop n (r ∷ rs)) (next at k lt))) (now ∙ sym none)
found_step test at r rs k found h ih false e =
    let le : at ≤ k = ltb-false k at e in
    ih (cond (test r) (Some k) found) (inl (omega (arith, le)))
    ∙ ap (λ n. list_any test (drop n rs) || is_from at (cond (test r) (Some k) found)) (nothing at (k + 1) (omega (arith, le)))
    ∙ late_step at k (test r) (list_any test rs) found le
    ∙ ap (λ n. list_any test (drop n (r ∷ rs)) || is_from at found) (sym (nothing at k le))

-- whether the last that passes is not before an index says whether one passes from there on
found_from : {R : Type 0} (test : R → Bool) (at : ℕ) (rs : List R) (k : ℕ) (found : Option ℕ) → IsEarly at k found
    → is_from at (last_from test k rs found) ≡ (list_any test (drop (at - k) rs) || is_from at found)
found_from test at [] k found h = ap (λ b. b || is_from at found) (sym (none_left test (at - k)))
found_from test at (r ∷ rs) k found h = found_step test at r rs k found h (found_from test at rs (k + 1)) (nat_lt k at) refl

le_swaps : (n l d : ℕ) → nat_le (n - l) d ≡ nat_le (n - d) l
le_swaps n l d =
    same_from_decides (nat_le (n - l) d) (nat_le (n - d) l) (leb-true (n - l) d, le-leb (n - l) d)
    (Decides-like (nat_le (n - d) l) (λ h. omega (arith, h)) (λ h. omega (arith, h)) (leb-true (n - d) l, le-leb (n - d) l))

-- whether one of the last requests is a note that cites the entry
pub near_is : {R : Type 0} (holds : R → Bool) (number : R → Option ℕ) (rs : List R) (d : ℕ)
    → is_within (length rs) d (history_after holds number rs).last_note ≡ list_any (λ r. is_some (citing holds number r)) (drop (length rs - d) rs)
near_is {R} holds number rs d =
    let test : R → Bool = λ r. is_some (citing holds number r) in
    ap (λ (f : ℕ → Bool). option_map_or f (last_from test 0 rs None) false) (fun_ext (λ l. le_swaps (length rs) l d))
    ∙ found_from test (length rs - d) rs 0 None (inr (omega arith, refl))
    ∙ or_false (list_any test (drop (length rs - d - 0) rs))
    ∙ ap (λ n. list_any test (drop n rs)) (less_none (length rs - d))
