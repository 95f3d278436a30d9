-- The first of a list, as code finds it: part by part, and along a slice.
use Rattle.std.proofs.Common.{◌≡◌, ℕ, ◌+◌, ◌<◌, ◌≤◌, List, [], ◌∷◌, ◌++◌, length, map, drop, get_or, Option, Some, None, refl, sym, ap, ◌∙◌, option_to_list}
use Rattle.std.proofs.lemmas.List.{at_drop_more, at_drop_all}
use Rattle.std.specs.List.{filter_map, cons_option}
use Rattle.std.specs.Option.{option_map}
use Rattle.xml_schema.specs.Faults.{first_of}

-- a list without a first
pub none_first : {A : Type 0} (xs : List A) → None ≡ first_of xs → xs ≡ []
none_first [] e = refl
none_first (x ∷ xs) e = absurd cc

-- the first of one list before another
pub some_first : {A : Type 0} (v : A) (xs ys : List A) → Some v ≡ first_of xs → Some v ≡ first_of (xs ++ ys)
some_first v [] ys e = absurd cc
some_first v (x ∷ xs) ys e = e

pub later_first : {A : Type 0} (o : Option A) (xs ys : List A) → None ≡ first_of xs → o ≡ first_of ys → o ≡ first_of (xs ++ ys)
later_first {A} o xs ys none e = e ∙ sym (ap (λ (zs : List A). first_of (zs ++ ys)) (none_first xs none))

pub first-map : {A B : Type 0} (f : A → B) (xs : List A) → first_of (map f xs) ≡ option_map f (first_of xs)
first-map f [] = refl
first-map f (x ∷ xs) = refl

pub first-option : {A : Type 0} (o : Option A) → first_of (option_to_list o) ≡ o
first-option None = refl
first-option (Some x) = refl

-- one more element of a list
pub finds_on : {A B : Type 0} (h : A → Option B) (rest others : List A) (x : A) (all : Option B) → first_of (filter_map h rest) ≡ all → rest ≡ x ∷ others → None ≡ h x
    → first_of (filter_map h others) ≡ all
finds_on {A} {B} h rest others x all so_far e none =
    let here : first_of (filter_map h others) ≡ first_of (filter_map h (x ∷ others)) = ap (λ (o : Option B). first_of (cons_option o (filter_map h others))) none in
    here ∙ (sym (ap (λ (xs : List A). first_of (filter_map h xs)) e) ∙ so_far)

pub finds_here : {A B : Type 0} (h : A → Option B) (rest others : List A) (x : A) (y : B) (all : Option B) → first_of (filter_map h rest) ≡ all → rest ≡ x ∷ others → Some y ≡ h x
    → Some y ≡ all
finds_here {A} {B} h rest others x y all so_far e some =
    let here : Some y ≡ first_of (filter_map h (x ∷ others)) = ap (λ (o : Option B). first_of (cons_option o (filter_map h others))) some in
    here ∙ (sym (ap (λ (xs : List A). first_of (filter_map h xs)) e) ∙ so_far)

pub finds_none : {A B : Type 0} (h : A → Option B) (rest : List A) (all : Option B) → first_of (filter_map h rest) ≡ all → rest ≡ [] → None ≡ all
finds_none {A} {B} h rest all so_far e = sym (ap (λ (xs : List A). first_of (filter_map h xs)) e) ∙ so_far

-- one more element of a slice, at an index
pub finds_on_at : {A B : Type 0} (h : A → Option B) (xs : List A) (i : ℕ) (x : A) (all : Option B) → first_of (filter_map h (drop i xs)) ≡ all → i < length xs → None ≡ h (get_or xs i x)
    → first_of (filter_map h (drop (i + 1) xs)) ≡ all
finds_on_at {A} h xs i x all so_far less none = finds_on h (drop i xs) (drop (i + 1) xs) (get_or xs i x) all so_far (at_drop_more (λ (ys : List A). ys) xs i x less) none

pub finds_here_at : {A B : Type 0} (h : A → Option B) (xs : List A) (i : ℕ) (x : A) (y : B) (all : Option B) → first_of (filter_map h (drop i xs)) ≡ all → i < length xs → Some y ≡ h (get_or xs i x)
    → Some y ≡ all
finds_here_at {A} h xs i x y all so_far less some = finds_here h (drop i xs) (drop (i + 1) xs) (get_or xs i x) y all so_far (at_drop_more (λ (ys : List A). ys) xs i x less) some

pub finds_none_at : {A B : Type 0} (h : A → Option B) (xs : List A) (i : ℕ) (all : Option B) → first_of (filter_map h (drop i xs)) ≡ all → length xs ≤ i → None ≡ all
finds_none_at {A} h xs i all so_far past = finds_none h (drop i xs) all so_far (at_drop_all (λ (ys : List A). ys) xs i past)
