use Rattle.std.proofs.Common.{List, [], ◌∷◌, ℕ, refl, ap, codes}
use Rattle.rendering_output.proofs.WritingCalls.{chars_ascii}
use Rattle.rendering_output.proofs.writing.style_declared.Goals as goal

pub returns-in-Italic : goal.returns-in-Italic
returns-in-Italic c = rw c.in-Italic.is (ap (λ (x : List ℕ). x ∷ []) (chars_ascii (codes "font-style: italic;") refl))

pub returns-in-Oblique : goal.returns-in-Oblique
returns-in-Oblique c = rw c.in-Oblique.is (ap (λ (x : List ℕ). x ∷ []) (chars_ascii (codes "font-style: oblique;") refl))
