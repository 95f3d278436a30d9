use Rattle.std.proofs.Common.{List, [], ◌∷◌, ℕ, refl, ap, codes}
use Rattle.rendering_output.proofs.WritingCalls.{chars_ascii}
use Rattle.rendering_output.proofs.writing.weight_declared.Goals as goal

pub returns-in-Bold : goal.returns-in-Bold
returns-in-Bold c = rw c.in-Bold.is (ap (λ (x : List ℕ). x ∷ []) (chars_ascii (codes "font-weight: bold;") refl))

pub returns-in-Light : goal.returns-in-Light
returns-in-Light c = rw c.in-Light.is (ap (λ (x : List ℕ). x ∷ []) (chars_ascii (codes "font-weight: lighter;") refl))
