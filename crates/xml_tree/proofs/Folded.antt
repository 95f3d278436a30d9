-- Steps over a list, one after the other, as a loop takes them.
use Rattle.std.proofs.Common.{◌≡◌, ℕ, ◌+◌, ◌<◌, ◌≤◌, List, [], ◌∷◌, length, map, drop, get_or, Option, Some, None, Result, Ok, Err, refl, sym, ap, ◌∙◌}
use Rattle.std.proofs.lemmas.List.{at_drop_more, at_drop_all}
use Rattle.laws.specs.Results.{◌>>=◌, EndsWith}
use Rattle.xml_tree.specs.Folding.{folded}

-- a step that fails before others
pub ends_bind : {F A B : Type 0} (refusal : Option F) (r : Result A F) (f : A → Result B F) → EndsWith refusal r → EndsWith refusal (r >>= f)
ends_bind None r f e = tt
ends_bind {F} {A} {B} (Some d) r f e = ap (λ (x : Result A F). x >>= f) e

-- one more element of a list
pub folds_on : {A S F : Type 0} (step : S → A → Result S F) (s more : S) (rest others : List A) (x : A) (all : Result S F) → folded step s rest ≡ all → rest ≡ x ∷ others → step s x ≡ Ok more
    → folded step more others ≡ all
folds_on step s more rest others x all so_far e is =
    let here : folded step s (x ∷ others) ≡ folded step more others = rw is refl in
    sym (ap (folded step s) e ∙ here) ∙ so_far

pub folds_end : {A S F : Type 0} (step : S → A → Result S F) (s : S) (rest : List A) (all : Result S F) → folded step s rest ≡ all → rest ≡ [] → all ≡ Ok s
folds_end step s rest all so_far e = sym so_far ∙ ap (folded step s) e

pub folds_fail : {A S F : Type 0} (step : S → A → Result S F) (s : S) (rest others : List A) (x : A) (refusal : Option F) (all : Result S F) → folded step s rest ≡ all → rest ≡ x ∷ others
    → EndsWith refusal (step s x) → EndsWith refusal all
folds_fail step s rest others x None all so_far e is = tt
folds_fail step s rest others x (Some f) all so_far e is =
    let here : folded step s (x ∷ others) ≡ Err f = rw is refl in
    sym so_far ∙ (ap (folded step s) e ∙ here)

-- the elements of a slice from an index on, viewed
pub slice_rest : {A B : Type 0} (view : A → B) (xs : List A) (i : ℕ) (x : A) → i < length xs → x ≡ get_or xs i x → map view (drop i xs) ≡ view x ∷ map view (drop (i + 1) xs)
slice_rest {A} {B} view xs i x less is = at_drop_more (map view) xs i x less ∙ ap (λ (y : A). view y ∷ map view (drop (i + 1) xs)) (sym is)

pub slice_done : {A B : Type 0} (view : A → B) (xs : List A) (i : ℕ) → length xs ≤ i → map view (drop i xs) ≡ []
slice_done view xs i past = at_drop_all (map view) xs i past
