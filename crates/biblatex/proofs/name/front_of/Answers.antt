use Rattle.std.proofs.Common.{◌∷◌, [], w64, ◌∙◌}
use Rattle.std.specs.Int.{from_be_bytes}
use Rattle.biblatex.specs.Fronts.{front_of}
use Rattle.biblatex.proofs.name.front_of.Goals as goal

pub returns-clause-number : goal.returns-clause-number
unfolding front_of
returns-clause-number c =
    c.from_be_bytes.ensures
    ∙ (λ i. from_be_bytes w64 (c.byte_at.ensures i ∷ c.byte_at-2.ensures i ∷ c.byte_at-3.ensures i ∷ c.byte_at-4.ensures i ∷ c.byte_at-5.ensures i ∷ c.byte_at-6.ensures i ∷ c.byte_at-7.ensures i ∷ c.byte_at-8.ensures i ∷ []))

pub returns-clause-bytes : goal.returns-clause-bytes
returns-clause-bytes c = λ i. (c.type_inv.text i).fits
