-- Words of which those are kept that no list has.
use Rattle.std.proofs.Common.{◌≡◌, ℕ, Bool, true, false, cond, List, [], ◌∷◌, ◌++◌, sym, ap, ◌∙◌, append-nil}
use Rattle.csl_locales.specs.Words.{is_unlisted}

-- a word that no list has is kept, another one is not
pub word_kept : (old new : List (List ℕ)) (w s : List ℕ) → s ≡ w → is_unlisted w ≡ true → new ≡ old ++ w ∷ [] → new ≡ old ++ cond (is_unlisted s) (s ∷ []) []
word_kept old new w s same is pushed =
    pushed ∙ sym (ap (λ (t : List ℕ). old ++ cond (is_unlisted t) (t ∷ []) []) same ∙ ap (λ (b : Bool). old ++ cond b (w ∷ []) []) is)

pub word_left : (old : List (List ℕ)) (w s : List ℕ) → s ≡ w → is_unlisted w ≡ false → old ≡ old ++ cond (is_unlisted s) (s ∷ []) []
word_left old w s same is =
    sym (ap (λ (t : List ℕ). old ++ cond (is_unlisted t) (t ∷ []) []) same ∙ (ap (λ (b : Bool). old ++ cond b (w ∷ []) []) is ∙ append-nil old))
