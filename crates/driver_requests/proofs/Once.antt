-- Each member once, while members are read one after the other.
use Rattle.std.proofs.Common.{◌≡◌, Bool, true, false, not, cond, ◌&&◌, ◌||◌, List, [], ◌∷◌, ◌++◌, refl, sym, ap, ◌∙◌}
use Rattle.std.specs.Prelude.{filter}
use Rattle.std.specs.Cmp.{IsEquivalence}
use Rattle.std.specs.List.{list_any}
use Rattle.std.proofs.lemmas.List.{append-nil, append_assoc}
use Rattle.std.proofs.lemmas.List.Elements.{filter-append}
use Rattle.driver_requests.specs.CitedEntries.{once}
use Rattle.driver_requests.specs.Indices.{pushed, grown}

none : (b : Bool) → false ≡ (not b && false)
none true = refl
none false = refl

gone : (b e a : Bool) → e ≡ b → (not b && a) ≡ (not b && (e || a))
gone true e a h = refl
gone false e a h = rw h refl

left : (b e a : Bool) → (e ≡ true → b ≡ false) → (e || (not b && a)) ≡ (not b && (e || a))
left b true a h = rw (h refl) refl
left b false a h = refl

viewed : (e b a : Bool) → b ≡ e → (e || (not b && a)) ≡ (e || a)
viewed true b a h = refl
viewed false b a h = rw h refl

others_step : {K : Type 0} {eq : K → K → Bool} (laws : IsEquivalence eq) (x q y : K) (ys : List K)
    → list_any (eq q) (filter (λ z. not (eq x z)) ys) ≡ (not (eq x q) && list_any (eq q) ys)
    → (t : Bool) → eq x y ≡ t
    → list_any (eq q) (cond (not t) (y ∷ filter (λ z. not (eq x z)) ys) (filter (λ z. not (eq x z)) ys)) ≡ (not (eq x q) && (eq q y || list_any (eq q) ys))
others_step {eq = eq} laws x q y ys ih true e = ih ∙ gone (eq x q) (eq q y) (list_any (eq q) ys) (laws.symm q y ∙ sym (laws.congr x y q e))
others_step {eq = eq} laws x q y ys ih false e =
    ap (λ a. eq q y || a) ih ∙ left (eq x q) (eq q y) (list_any (eq q) ys) (λ h. laws.symm x q ∙ laws.congr q y x h ∙ laws.symm y x ∙ e)

-- what is left without what is one with x
any_others : {K : Type 0} {eq : K → K → Bool} (laws : IsEquivalence eq) (x q : K) (ys : List K)
    → list_any (eq q) (filter (λ z. not (eq x z)) ys) ≡ (not (eq x q) && list_any (eq q) ys)
any_others {eq = eq} laws x q [] = none (eq x q)
any_others {eq = eq} laws x q (y ∷ ys) = others_step laws x q y ys (any_others laws x q ys) (eq x y) refl

-- each member is still there
pub once-any : {K : Type 0} {eq : K → K → Bool} (laws : IsEquivalence eq) (q : K) (xs : List K) → list_any (eq q) (once eq xs) ≡ list_any (eq q) xs
once-any laws q [] = refl
once-any {eq = eq} laws q (x ∷ xs) =
    ap (λ a. eq q x || a) (any_others laws x q (once eq xs) ∙ ap (λ a. not (eq x q) && a) (once-any laws q xs))
    ∙ viewed (eq q x) (eq x q) (list_any (eq q) xs) (laws.symm x q)

-- a last member that is filtered
last_filtered : {K : Type 0} (p : K → Bool) (y : K) (t b : Bool) → p y ≡ not t → filter p (cond b [] (y ∷ [])) ≡ cond (t || b) [] (y ∷ [])
last_filtered p y true true h = refl
last_filtered p y true false h = rw h refl
last_filtered p y false true h = refl
last_filtered p y false false h = rw h refl

-- one more member stays where it is new
pub once_more : {K : Type 0} {eq : K → K → Bool} (laws : IsEquivalence eq) (xs : List K) (y : K)
    → once eq (xs ++ y ∷ []) ≡ once eq xs ++ cond (list_any (eq y) xs) [] (y ∷ [])
once_more laws [] y = refl
once_more {eq = eq} laws (x ∷ xs) y =
    ap (λ zs. x ∷ filter (λ z. not (eq x z)) zs) (once_more laws xs y)
    ∙ ap (λ zs. x ∷ zs)
    (filter-append (λ z. not (eq x z)) (once eq xs) (cond (list_any (eq y) xs) [] (y ∷ []))
    ∙ ap (λ zs. filter (λ z. not (eq x z)) (once eq xs) ++ zs) (last_filtered (λ z. not (eq x z)) y (eq y x) (list_any (eq y) xs) (ap not (laws.symm x y))))

pushed_as : {K : Type 0} (es : List K) (y : K) (b : Bool) → cond b es (es ++ y ∷ []) ≡ es ++ cond b [] (y ∷ [])
pushed_as es y true = sym (append-nil es)
pushed_as es y false = refl

-- pushing one more
pub pushed_once : {K : Type 0} {eq : K → K → Bool} (laws : IsEquivalence eq) (xs : List K) (y : K) → pushed eq (once eq xs) y ≡ once eq (xs ++ y ∷ [])
pushed_once {eq = eq} laws xs y =
    pushed_as (once eq xs) y (list_any (eq y) (once eq xs)) ∙ ap (λ b. once eq xs ++ cond b [] (y ∷ [])) (once-any laws y xs) ∙ sym (once_more laws xs y)

-- pushing them one after the other
pub grown_once : {K : Type 0} {eq : K → K → Bool} (laws : IsEquivalence eq) (xs ys : List K) → grown eq (once eq xs) ys ≡ once eq (xs ++ ys)
grown_once {eq = eq} laws xs [] = ap (once eq) (sym (append-nil xs))
grown_once {eq = eq} laws xs (y ∷ ys) =
    ap (λ es. grown eq es ys) (pushed_once laws xs y) ∙ grown_once laws (xs ++ y ∷ []) ys ∙ ap (once eq) (append_assoc xs (y ∷ []) ys)

-- all that are read
pub grown_all : {K : Type 0} {eq : K → K → Bool} (laws : IsEquivalence eq) (xs : List K) → grown eq [] xs ≡ once eq xs
grown_all laws xs = grown_once laws [] xs
