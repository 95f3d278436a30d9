-- Elements changed one after the other, and runs compared from the start on.
use Rattle.std.proofs.Common.{arith, ◌≡◌, ℕ, ◌+◌, ◌<◌, ◌≤◌, Bool, true, false, ◌||◌, List, [], ◌∷◌, ◌++◌, map, length, take, drop, get_or, refl, sym, ap, ◌∙◌}
use Rattle.std.specs.Prelude.{slice_set}
use Rattle.std.specs.List.{list_any}
use Rattle.std.proofs.lemmas.List.{append_assoc, length-map, length-take-le, drop_more, at_drop_more, get_or_at, set_at, map_more}
use Rattle.std.proofs.lemmas.List.Folds.{list_any_more}
use Rattle.rendering_people.specs.Properties.{is_above}
use Rattle.rendering_taxonomy.specs.NameForms.{rank}
use Rattle.rendering_taxonomy.specs.declared.name.DisambiguatedNameForm.{DisambiguatedNameForm}
use Rattle.rendering_taxonomy.specs.declared.name.DisambiguatedNameForm.TheVariants as forms

leading : {X : Type 0} (f : X → X) (xs : List X) (i : ℕ) → i < length xs → length (map f (take i xs)) ≡ i
leading f xs i low = let le : i ≤ length xs = omega arith in length-map (take i xs) f ∙ length-take-le i xs le

-- the next element is as it was
next_is : {X : Type 0} (f : X → X) (xs ys : List X) (i : ℕ) (d : X) → i < length xs → ys ≡ map f (take i xs) ++ drop i xs → get_or ys i d ≡ get_or xs i d
next_is f xs ys i d low is =
    ap (λ zs. get_or zs i d) (is ∙ ap (λ zs. map f (take i xs) ++ zs) (drop_more xs i d low))
    ∙ get_or_at (map f (take i xs)) (get_or xs i d) (drop (i + 1) xs) d i (leading f xs i low)

-- it is changed
pub changed_more : {X : Type 0} (f : X → X) (xs ys : List X) (i : ℕ) (d y : X) → i < length xs → ys ≡ map f (take i xs) ++ drop i xs → y ≡ f (get_or ys i d)
    → slice_set ys i y ≡ map f (take (i + 1) xs) ++ drop (i + 1) xs
changed_more f xs ys i d y low is new =
    (λ k. slice_set ((is ∙ ap (λ zs. map f (take i xs) ++ zs) (drop_more xs i d low)) k) i ((new ∙ ap f (next_is f xs ys i d low is)) k))
    ∙ set_at (map f (take i xs)) (get_or xs i d) (drop (i + 1) xs) (f (get_or xs i d)) i (leading f xs i low)
    ∙ sym (append_assoc (map f (take i xs)) (f (get_or xs i d) ∷ []) (drop (i + 1) xs))
    ∙ ap (λ zs. zs ++ drop (i + 1) xs) (sym (map_more f xs i d low))

-- whether some element passes, one more among them
pub any_more : {X : Type 0} (f : X → X) (p : X → Bool) (xs ys : List X) (i : ℕ) (d : X) → i < length xs → ys ≡ map f (take i xs) ++ drop i xs
    → (before here after : Bool) → before ≡ list_any p (take i xs) → here ≡ p (get_or ys i d) → after ≡ (before || here) → after ≡ list_any p (take (i + 1) xs)
any_more f p xs ys i d low is before here after is_before is_here is_after =
    is_after ∙ (λ k. is_before k || (is_here ∙ ap p (next_is f xs ys i d low is)) k) ∙ sym (list_any_more p xs i d low)

pub or_true : (a b : Bool) → b ≡ true → true ≡ (a || b)
or_true true b e = refl
or_true false b e = sym e

pub or_false : (a b : Bool) → b ≡ false → a ≡ (a || b)
or_false true b e = refl
or_false false b e = sym e

-- a run that goes on is above one that has ended
pub above_end : (fs gs : List DisambiguatedNameForm) (i : ℕ) → i < length fs → gs ≡ [] → is_above (map rank (drop i fs)) (map rank gs) ≡ true
above_end fs gs i low none =
    ap (λ hs. is_above (map rank (drop i fs)) (map rank hs)) none
    ∙ at_drop_more (λ hs. is_above (map rank hs) []) fs i forms.Count low
