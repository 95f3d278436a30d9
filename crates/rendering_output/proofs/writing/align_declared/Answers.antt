use Rattle.std.proofs.Common.{List, [], ◌∷◌, ℕ, refl, ap, codes}
use Rattle.rendering_output.proofs.WritingCalls.{chars_ascii}
use Rattle.rendering_output.proofs.writing.align_declared.Goals as goal

pub returns-in-Sup : goal.returns-in-Sup
returns-in-Sup c = rw c.in-Sup.is (ap (λ (x : List ℕ). x ∷ []) (chars_ascii (codes "vertical-align: super;") refl))

pub returns-in-Sub : goal.returns-in-Sub
returns-in-Sub c = rw c.in-Sub.is (ap (λ (x : List ℕ). x ∷ []) (chars_ascii (codes "vertical-align: sub;") refl))
