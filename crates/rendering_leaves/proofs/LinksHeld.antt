-- Ends of texts, read from the last character on.
use Rattle.std.proofs.Common.{◌≡◌, ℕ, ◌==◌, List, [], ◌∷◌, ◌++◌, reverse, ap, ◌∙◌, Some, None}
use Rattle.std.specs.Prelude.{if◌then◌else◌}
use Rattle.std.specs.Option.{option_map}
use Rattle.std.proofs.lemmas.Bool.{eq-eqb, ne_eqb}
use Rattle.std.proofs.lemmas.List.{reverse-append, reverse-reverse}
use Rattle.rendering_leaves.specs.Links.{after_start}

-- the last characters of both come first
last_first : (c d : ℕ) (xs ys zs ws : List ℕ) → xs ≡ ys ++ c ∷ [] → zs ≡ ws ++ d ∷ [] → after_start (reverse xs) (reverse zs) ≡ (if c == d then after_start (reverse ys) (reverse ws) else None)
last_first c d xs ys zs ws e f =
    (λ i. after_start (reverse (e i)) (reverse (f i)))
    ∙ (λ i. after_start (reverse-append ys (c ∷ []) i) (reverse-append ws (d ∷ []) i))

-- where they are the same one is passed
pub one_less : (c d : ℕ) (xs ys zs ws : List ℕ) → xs ≡ ys ++ c ∷ [] → zs ≡ ws ++ d ∷ [] → c ≡ d → after_start (reverse xs) (reverse zs) ≡ after_start (reverse ys) (reverse ws)
one_less c d xs ys zs ws e f same =
    last_first c d xs ys zs ws e f ∙ ap (λ b. if b then after_start (reverse ys) (reverse ws) else None) (eq-eqb c d same)

-- where they differ the text has another end
pub another_end : (c d : ℕ) (xs ys zs ws : List ℕ) → xs ≡ ys ++ c ∷ [] → zs ≡ ws ++ d ∷ [] → (c ≡ d → ⊥) → option_map reverse (after_start (reverse xs) (reverse zs)) ≡ None
another_end c d xs ys zs ws e f other =
    ap (option_map reverse) (last_first c d xs ys zs ws e f ∙ ap (λ b. if b then after_start (reverse ys) (reverse ws) else None) (ne_eqb c d other))

-- so it has where nothing is left of it
pub no_end : (c : ℕ) (xs ys zs : List ℕ) → xs ≡ ys ++ c ∷ [] → zs ≡ [] → option_map reverse (after_start (reverse xs) (reverse zs)) ≡ None
no_end c xs ys zs e none =
    ap (option_map reverse) ((λ i. after_start (reverse (e i)) (reverse (none i))) ∙ ap (λ us. after_start us []) (reverse-append ys (c ∷ [])))

-- where all of the end was passed
pub all_passed : (xs zs : List ℕ) → xs ≡ [] → option_map reverse (after_start (reverse xs) (reverse zs)) ≡ Some zs
all_passed xs zs none = ap (λ us. option_map reverse (after_start (reverse us) (reverse zs))) none ∙ ap Some (reverse-reverse zs)
