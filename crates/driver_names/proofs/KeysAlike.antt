-- Keys that are the same, one after the other.
use Rattle.std.proofs.Common.{◌≡◌, ℕ, ◌+◌, ◌<◌, ◌≤◌, Bool, true, false, cond, List, [], ◌∷◌, ◌++◌, map, length, get_or, take, drop, refl, sym, ap, ◌∙◌, arith}
use Rattle.std.specs.Prelude.{count_by}
use Rattle.std.specs.Borrow.{Bor}
use Rattle.std.specs.Cmp.{IsEquivalence}
use Rattle.std.specs.BTreeMap.{BTreeMap}
use Rattle.std.specs.List.{list_any, position_or_len}
use Rattle.std.proofs.lemmas.Bool.{false≢true}
use Rattle.std.proofs.lemmas.List.{length-take-le, map-append, take-append-drop, take_more}
use Rattle.std.proofs.lemmas.List.Folds.{list_any-append}
use Rattle.std.proofs.lemmas.List.Sums.{count_by-le-length, sum_by_push}
use Rattle.driver_requests.specs.Indices.{index_in}
use Rattle.driver_requests.proofs.IndicesFound.{index_stays}
use Rattle.driver_names.specs.Keys.{IsIndex}
use Rattle.driver_names.proofs.Counting.{same_test}

again_by : {K : Type 0} {eq : K → K → Bool} (laws : IsEquivalence eq) (earlier : List K) (e q : K) (b c : Bool) → list_any (eq e) earlier ≡ true → list_any (eq q) earlier ≡ b → eq q e ≡ c
    → index_in (eq q) earlier ≡ index_in (eq q) (earlier ++ e ∷ [])
again_by {eq = eq} laws earlier e q true c old here same =
    rw (list_any-append (eq q) earlier (e ∷ []), here, index_stays (eq q) earlier (e ∷ []) here) refl
again_by {eq = eq} laws earlier e q false true old here same =
    absurd (false≢true (sym here ∙ sym (ap (λ test. list_any test earlier) (same_test laws e q (laws.symm e q ∙ same))) ∙ old))
again_by {eq = eq} laws earlier e q false false old here same = rw (list_any-append (eq q) earlier (e ∷ []), here, same) refl

-- a key that came earlier before changes no index
pub index_again : {T : Type 0} {eq : T → T → Bool} (laws : IsEquivalence eq) (table : BTreeMap (Bor T) ℕ) (earlier : List T) (e : T) → list_any (eq e) earlier ≡ true → IsIndex eq table earlier
    → IsIndex eq table (earlier ++ e ∷ [])
index_again {eq = eq} laws table earlier e old before = λ q. before q ∙ again_by laws earlier e q.now (list_any (eq q.now) earlier) (eq q.now e) old refl refl

here_last : {K : Type 0} {eq : K → K → Bool} (laws : IsEquivalence eq) (earlier : List K) (e : K) → (b : Bool) → list_any (eq e) earlier ≡ b → list_any (eq e) (earlier ++ e ∷ []) ≡ true
here_last {eq = eq} laws earlier e true is = rw (list_any-append (eq e) earlier (e ∷ []), is) refl
here_last {eq = eq} laws earlier e false is = rw (list_any-append (eq e) earlier (e ∷ []), is, laws.refl e) refl

-- a loop that finds the first key that is the same as each
pub firsts_step : {K : Type 0} {eq : K → K → Bool} (laws : IsEquivalence eq) (keys : List K) (i : ℕ) (key : K) (n : ℕ) (old new : List ℕ) → i < length keys → key ≡ get_or keys i key
    → n ≡ position_or_len (eq key) (take i keys ++ key ∷ []) → old ≡ map (λ k. position_or_len (eq k) keys) (take i keys) → new ≡ old ++ n ∷ []
    → new ≡ map (λ k. position_or_len (eq k) keys) (take (i + 1) keys)
firsts_step {K} {eq = eq} laws keys i key n old new low is first before after =
    let earlier : List K = take i keys in
    let more : take (i + 1) keys ≡ earlier ++ key ∷ [] = take_more keys i key low ∙ ap (λ k. earlier ++ k ∷ []) (sym is) in
    let rest : List K = drop (i + 1) keys in
    let whole : (earlier ++ key ∷ []) ++ rest ≡ keys = ap (λ ks. ks ++ rest) (sym more) ∙ take-append-drop (i + 1) keys in
    let there = here_last laws earlier key (list_any (eq key) earlier) refl in
    let found : n ≡ position_or_len (eq key) keys = first ∙ sym (index_stays (eq key) (earlier ++ key ∷ []) rest there) ∙ ap (position_or_len (eq key)) whole in
    after
    ∙ (λ j. before j ++ found j ∷ [])
    ∙ sym (ap (map (λ k. position_or_len (eq k) keys)) more ∙ map-append (λ k. position_or_len (eq k) keys) earlier (key ∷ []))

-- a loop that counts keys
pub tally_step : {K : Type 0} {eq : K → K → Bool} (laws : IsEquivalence eq) (keys : List K) (i : ℕ) (key q : K) (old new : ℕ) → i < length keys → key ≡ get_or keys i key
    → old ≡ count_by (eq q) (take i keys) → new ≡ old + cond (eq key q) 1 0 → new ≡ count_by (eq q) (take (i + 1) keys)
tally_step {K} {eq = eq} laws keys i key q old new low is before after =
    after
    ∙ (λ j. before j + cond (laws.symm key q j) 1 0)
    ∙ sym (ap (count_by (eq q)) (take_more keys i key low ∙ ap (λ k. take i keys ++ k ∷ []) (sym is)) ∙ sum_by_push (λ k. cond (eq q k) 1 0) (take i keys) key)

-- a count of keys, and one, fits where they are not yet all
pub tally_fits : {K : Type 0} (test : K → Bool) (keys : List K) (i n : ℕ) → i < length keys → n ≡ count_by test (take i keys) → n < length keys
tally_fits test keys i n low is =
    let le : i ≤ length keys = omega (arith, low) in
    omega (arith, is, low, count_by-le-length test (take i keys), length-take-le i keys le)
