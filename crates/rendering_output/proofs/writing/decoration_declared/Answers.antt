use Rattle.std.proofs.Common.{List, [], ◌∷◌, ℕ, refl, ap, codes}
use Rattle.rendering_output.proofs.WritingCalls.{chars_ascii}
use Rattle.rendering_output.proofs.writing.decoration_declared.Goals as goal

pub returns-in-Underline : goal.returns-in-Underline
returns-in-Underline c = rw c.in-Underline.is (ap (λ (x : List ℕ). x ∷ []) (chars_ascii (codes "text-decoration: underline;") refl))
