use Rattle.std.proofs.Common.{List, [], ◌∷◌, ℕ, refl, ap, codes}
use Rattle.rendering_output.proofs.WritingCalls.{chars_ascii}
use Rattle.rendering_output.proofs.writing.variant_declared.Goals as goal

pub returns-in-SmallCaps : goal.returns-in-SmallCaps
returns-in-SmallCaps c = rw c.in-SmallCaps.is (ap (λ (x : List ℕ). x ∷ []) (chars_ascii (codes "font-variant: small-caps;") refl))
