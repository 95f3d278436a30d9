-- Lists that are made of others, member by member.
use Rattle.std.proofs.Common.{◌≡◌, ℕ, ◌+◌, ◌<◌, ◌≤◌, List, [], ◌∷◌, ◌++◌, append_assoc, append-nil, length, map, drop, get_or, refl, sym, ap, ◌∙◌, arith}
use Rattle.std.proofs.lemmas.List.{drop_all, drop_more, get_or-map, length-map, map-append}
use Rattle.driver_rounds.specs.FirstPrints.{flattened}

-- one more is made of the first that is left
pub made_goes_on : {A B C : Type 0} (f : A → B) (g : C → B) (items new : List A) (x : C) (y : A) (rest whole : List C) (all : List B) → whole ≡ x ∷ rest
    → map f items ++ map g whole ≡ all → f y ≡ g x → new ≡ items ++ y ∷ [] → map f new ++ map g rest ≡ all
made_goes_on f g items new x y rest whole all split h says e =
    ap (λ ys. map f ys ++ map g rest) e
    ∙ ap (λ bs. bs ++ map g rest) (map-append f items (y ∷ []))
    ∙ append_assoc (map f items) (f y ∷ []) (map g rest)
    ∙ ap (λ b. map f items ++ b ∷ map g rest) says
    ∙ ap (λ xs. map f items ++ map g xs) (sym split)
    ∙ h

-- none is left
pub made_ends : {A B C : Type 0} (f : A → B) (g : C → B) (items : List A) (whole : List C) (all : List B) → whole ≡ [] → map f items ++ map g whole ≡ all → map f items ≡ all
made_ends f g items whole all none h = sym (append-nil (map f items)) ∙ ap (λ xs. map f items ++ map g xs) (sym none) ∙ h

-- one more is made of the member at an index
pub read_goes_on : {A B C : Type 0} (f : A → B) (g : C → B) (es : List C) (items new : List A) (n : ℕ) (e : C) (y : A) (all : List B) → n < length es → e ≡ get_or es n e
    → map f items ++ map g (drop n es) ≡ all → f y ≡ g e → new ≡ items ++ y ∷ [] → map f new ++ map g (drop (n + 1) es) ≡ all
read_goes_on {C = C} f g es items new n e y all less at h says made =
    made_goes_on f g items new e y (drop (n + 1) es) (drop n es) all (drop_more es n e less ∙ ap (λ (c : C). c ∷ drop (n + 1) es) (sym at)) h says made

-- all members were read
pub read_ends : {A B C : Type 0} (f : A → B) (g : C → B) (es : List C) (items : List A) (n : ℕ) (all : List B) → length es ≤ n → map f items ++ map g (drop n es) ≡ all → map f items ≡ all
read_ends f g es items n all over h = made_ends f g items (drop n es) all (drop_all n es over) h

-- what is as long in two lists is as long at each index
pub long_at : {A B : Type 0} (f : A → ℕ) (g : B → ℕ) (xs : List A) (ys : List B) (n : ℕ) (a : A) (b : B) → map f xs ≡ map g ys → n < length ys → a ≡ get_or xs n a → b ≡ get_or ys n b → f a ≡ g b
long_at f g xs ys n a b same less at_a at_b =
    let long : n < length xs = omega (arith, less, sym (length-map xs f) ∙ ap length same ∙ length-map ys g) in
    ap f at_a
    ∙ sym (get_or-map f xs n a (g b) long)
    ∙ ap (λ ns. get_or ns n (g b)) same
    ∙ get_or-map g ys n b (g b) less
    ∙ ap g (sym at_b)

-- two such lists are as long
pub as_long : {A B C : Type 0} (f : A → C) (g : B → C) (xs : List A) (ys : List B) → map f xs ≡ map g ys → length xs ≡ length ys
as_long f g xs ys same = sym (length-map xs f) ∙ ap length same ∙ length-map ys g

-- one more is copied
pub copied_goes_on : {A B : Type 0} (f : A → B) (es : List B) (items new : List A) (n : ℕ) (e : B) (y : A) (all : List B) → n < length es → e ≡ get_or es n e
    → map f items ++ drop n es ≡ all → f y ≡ e → new ≡ items ++ y ∷ [] → map f new ++ drop (n + 1) es ≡ all
copied_goes_on f es items new n e y all less at h says made =
    ap (λ ys. map f ys ++ drop (n + 1) es) made
    ∙ ap (λ bs. bs ++ drop (n + 1) es) (map-append f items (y ∷ []))
    ∙ append_assoc (map f items) (f y ∷ []) (drop (n + 1) es)
    ∙ ap (λ b. map f items ++ b ∷ drop (n + 1) es) (says ∙ at)
    ∙ ap (λ xs. map f items ++ xs) (sym (drop_more es n e less))
    ∙ h

-- all are copied
pub copied_ends : {A B : Type 0} (f : A → B) (es : List B) (items : List A) (n : ℕ) (all : List B) → length es ≤ n → map f items ++ drop n es ≡ all → map f items ≡ all
copied_ends f es items n all over h = sym (append-nil (map f items)) ∙ ap (λ xs. map f items ++ xs) (sym (drop_all n es over)) ∙ h

-- what is made of each member of lists, one after the other
pub flat_maps : {A B : Type 0} (f : A → B) (xss : List (List A)) → flattened (map (map f) xss) ≡ map f (flattened xss)
flat_maps f [] = refl
flat_maps f (xs ∷ xss) = ap (λ ys. map f xs ++ ys) (flat_maps f xss) ∙ sym (map-append f xs (flattened xss))
