-- Declarations, one after the other.
use Rattle.std.proofs.Common.{◌≡◌, ℕ, Bool, true, false, ◌||◌, List, [], ◌∷◌, ◌++◌, if◌then◌else◌, refl, sym, ap, subst, ◌∙◌, append_assoc}
use Rattle.std.specs.List.{flat_map}
use Rattle.std.proofs.lemmas.Grind.{flat_map-append}
use Rattle.std.proofs.lemmas.List.{append-nil}
use Rattle.laws.specs.Characters.{space}
use Rattle.laws.specs.Text.{is_filled}
use Rattle.rendering_output.specs.Writing.{spaced, spaced_after, WritesCharacters}
use Rattle.rendering_output.proofs.WritingCalls.{writes_more}

spaced-cons : (d : List ℕ) (ds : List (List ℕ)) → spaced (d ∷ ds) ≡ d ++ flat_map (λ e. space ∷ e) ds
spaced-cons d [] = sym (append-nil d)
spaced-cons d (e ∷ ds) = ap (λ (x : List ℕ). d ++ space ∷ x) (spaced-cons e ds)

spaced_after-append : (b : Bool) (ds es : List (List ℕ)) → spaced_after b (ds ++ es) ≡ spaced_after b ds ++ spaced_after (b || is_filled ds) es
spaced_after-append true ds es = flat_map-append (λ (e : List ℕ). space ∷ e) ds es
spaced_after-append false [] es = refl
spaced_after-append false (d ∷ ds) es =
    let others : List (List ℕ) → List ℕ = flat_map (λ e. space ∷ e) in
    spaced-cons d (ds ++ es)
    ∙ (ap (λ (x : List ℕ). d ++ x) (flat_map-append (λ (e : List ℕ). space ∷ e) ds es)
    ∙ (sym (append_assoc d (others ds) (others es))
    ∙ ap (λ (x : List ℕ). x ++ others es) (sym (spaced-cons d ds))))

-- one declaration, after a space where it is not the first
pub spaced_after-one : (b : Bool) (d : List ℕ) → (if b then space ∷ [] else []) ++ d ≡ spaced_after b (d ∷ [])
spaced_after-one true d = sym (append-nil (space ∷ d))
spaced_after-one false d = refl

-- declarations were written, and then others, of which the writer was told whether they come after any
pub writes_declared : {W : Type 0} (took : W → List ℕ → W → Type 0) (w : W) (b : Bool) (ds xs : List (List ℕ)) (v : W) (c : Bool) (es : List (List ℕ)) (u : W)
    → xs ≡ ds → WritesCharacters took w (spaced_after b xs) v → c ≡ (b || is_filled xs) → WritesCharacters took v (spaced_after c es) u
    → WritesCharacters took w (spaced_after b (ds ++ es)) u
writes_declared took w b ds xs v c es u same p e q =
    let second = subst (λ (x : Bool). WritesCharacters took v (spaced_after x es) u) e q in
    let both = writes_more took w (spaced_after b xs) v (spaced_after (b || is_filled xs) es) u p second in
    let whole = subst (λ (x : List ℕ). WritesCharacters took w x u) (sym (spaced_after-append b xs es)) both in
    subst (λ (x : List (List ℕ)). WritesCharacters took w (spaced_after b (x ++ es)) u) same whole

-- five lists one after the other
pub five-in_a_row : (a b c d e : List (List ℕ)) → a ++ (b ++ (c ++ (d ++ e))) ≡ a ++ b ++ c ++ d ++ e
five-in_a_row a b c d e = sym (append_assoc (a ++ b ++ c) d e ∙ (append_assoc (a ++ b) c (d ++ e) ∙ append_assoc a b (c ++ (d ++ e))))
