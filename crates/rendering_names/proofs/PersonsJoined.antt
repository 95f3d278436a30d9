-- Parts of a name appended one after the other.
use Rattle.std.proofs.Common.{◌≡◌, ℕ, List, [], ◌∷◌, ◌++◌, cond, refl, sym, ap, ◌∙◌, append_assoc}
use Rattle.laws.specs.Characters.{space}
use Rattle.laws.specs.Text.{is_filled}
use Rattle.rendering_names.specs.Persons.{joined, spaced}

joined-nil : (between cs : List ℕ) → joined between cs [] ≡ cs
joined-nil between [] = refl
joined-nil between (c ∷ cs) = refl

-- a particle after a given name, both after a family name: the separator stands before the first of them that is there
pub particle_after_given : (separator name given particle : List ℕ)
    → joined (cond (is_filled given) (space ∷ []) separator) (joined separator name given) particle ≡ joined separator name (spaced given particle)
particle_after_given separator name [] particle = ap (λ cs. joined separator cs particle) (joined-nil separator name)
particle_after_given separator name (g ∷ given) [] = joined-nil (space ∷ []) (joined separator name (g ∷ given))
particle_after_given separator [] (g ∷ given) (p ∷ particle) = refl
particle_after_given separator (n ∷ name) (g ∷ given) (p ∷ particle) =
    append_assoc ((n ∷ name) ++ separator ++ (g ∷ given)) (space ∷ []) (p ∷ particle)
    ∙ append_assoc ((n ∷ name) ++ separator) (g ∷ given) (space ∷ p ∷ particle)
    ∙ ap (λ cs. (n ∷ name) ++ separator ++ cs) (sym (append_assoc (g ∷ given) (space ∷ []) (p ∷ particle)))
