-- The indices of entries by first cite are the numbers from zero on.
use Rattle.std.proofs.Common.{◌≡◌, Bool, true, false, ◌||◌, nat_eq, List, [], ◌∷◌, ◌++◌, map, length, refl, sym, ap, ◌∙◌, arith, append-nil, append_assoc, lt-ltb, le-ltb}
use Rattle.std.specs.Cmp.{IsEquivalence, nat_eq_equiv}
use Rattle.std.specs.List.{list_any, position_or_len, range_with_len}
use Rattle.std.proofs.lemmas.List.{length-append}
use Rattle.std.proofs.lemmas.List.Folds.{list_any-append}
use Rattle.driver_requests.specs.CitedEntries.{once, index_among}
use Rattle.driver_requests.specs.Indices.{pushed, grown}
use Rattle.driver_requests.proofs.Once.{pushed_once, grown_once, grown_all, once-any}
use Rattle.driver_requests.proofs.OrderPut.{range_has, range_more}
use Rattle.driver_requests.proofs.IndicesFound.{pushed_old, pushed_new, index_new, index_below, index_kept}

step : {K : Type 0} {eq : K → K → Bool} (laws : IsEquivalence eq) (es : List K) (y : K) (b : Bool) → list_any (eq y) es ≡ b
    → pushed nat_eq (range_with_len 0 (length es)) (position_or_len (eq y) (pushed eq es y)) ≡ range_with_len 0 (length (pushed eq es y))
step {eq = eq} laws es y true h =
    ap (λ fs. pushed nat_eq (range_with_len 0 (length es)) (position_or_len (eq y) fs)) (pushed_old eq es y h)
    ∙ pushed_old nat_eq (range_with_len 0 (length es)) (position_or_len (eq y) es) (range_has (position_or_len (eq y) es) (length es) ∙ lt-ltb (position_or_len (eq y) es) (length es) (index_below (eq y) es h))
    ∙ ap (λ fs. range_with_len 0 (length fs)) (sym (pushed_old eq es y h))
step {eq = eq} laws es y false h =
    ap (pushed nat_eq (range_with_len 0 (length es))) (ap (position_or_len (eq y)) (pushed_new eq es y h) ∙ sym (index_new laws es y h))
    ∙ pushed_new nat_eq (range_with_len 0 (length es)) (length es) (range_has (length es) (length es) ∙ le-ltb (length es) (length es) (omega arith))
    ∙ sym (range_more (length es))
    ∙ ap (range_with_len 0) (sym (length-append es (y ∷ [])))
    ∙ ap (λ fs. range_with_len 0 (length fs)) (sym (pushed_new eq es y h))

or_true : (b : Bool) → (b || true) ≡ true
or_true true = refl
or_true false = refl

there : {K : Type 0} {eq : K → K → Bool} (laws : IsEquivalence eq) (xs : List K) (y : K) → list_any (eq y) (once eq (xs ++ y ∷ [])) ≡ true
there {eq = eq} laws xs y =
    once-any laws y (xs ++ y ∷ []) ∙ list_any-append (eq y) xs (y ∷ []) ∙ ap (λ b. list_any (eq y) xs || (b || false)) (laws.refl y) ∙ or_true (list_any (eq y) xs)

-- the index of an entry that is read stays
pub index_stands : {K : Type 0} {eq : K → K → Bool} (laws : IsEquivalence eq) (xs : List K) (y : K) (ys : List K)
    → position_or_len (eq y) (once eq ((xs ++ y ∷ []) ++ ys)) ≡ position_or_len (eq y) (once eq (xs ++ y ∷ []))
index_stands {eq = eq} laws xs y ys =
    ap (position_or_len (eq y)) (sym (grown_once laws (xs ++ y ∷ []) ys)) ∙ index_kept eq y ys (once eq (xs ++ y ∷ [])) (there laws xs y)

one : {K : Type 0} {eq : K → K → Bool} (laws : IsEquivalence eq) (xs : List K) (y : K) (ys : List K)
    → pushed nat_eq (range_with_len 0 (length (once eq xs))) (position_or_len (eq y) (once eq ((xs ++ y ∷ []) ++ ys))) ≡ range_with_len 0 (length (once eq (xs ++ y ∷ [])))
one {eq = eq} laws xs y ys =
    ap (pushed nat_eq (range_with_len 0 (length (once eq xs)))) (index_stands laws xs y ys ∙ ap (position_or_len (eq y)) (sym (pushed_once laws xs y)))
    ∙ step laws (once eq xs) y (list_any (eq y) (once eq xs)) refl
    ∙ ap (λ es. range_with_len 0 (length es)) (pushed_once laws xs y)

more : {K : Type 0} {eq : K → K → Bool} (laws : IsEquivalence eq) (ys xs : List K)
    → grown nat_eq (range_with_len 0 (length (once eq xs))) (map (λ e. position_or_len (eq e) (once eq (xs ++ ys))) ys) ≡ range_with_len 0 (length (once eq (xs ++ ys)))
more {eq = eq} laws [] xs = ap (λ es. range_with_len 0 (length (once eq es))) (sym (append-nil xs))
more {K} {eq = eq} laws (y ∷ ys) xs =
    ap (λ (all : List K). grown nat_eq (range_with_len 0 (length (once eq xs))) (map (λ e. position_or_len (eq e) (once eq all)) (y ∷ ys))) (sym (append_assoc xs (y ∷ []) ys))
    ∙ ap (λ es. grown nat_eq es (map (λ e. position_or_len (eq e) (once eq ((xs ++ y ∷ []) ++ ys))) ys)) (one laws xs y ys)
    ∙ more laws ys (xs ++ y ∷ [])
    ∙ ap (λ (all : List K). range_with_len 0 (length (once eq all))) (append_assoc xs (y ∷ []) ys)

-- each index once, by first cite
pub indices_once : {K : Type 0} {eq : K → K → Bool} (laws : IsEquivalence eq) (all : List K) → once nat_eq (map (index_among eq all) all) ≡ range_with_len 0 (length (once eq all))
indices_once {eq = eq} laws all = sym (grown_all nat_eq_equiv (map (index_among eq all) all)) ∙ more laws all []
