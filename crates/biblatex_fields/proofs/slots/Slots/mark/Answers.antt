use Rattle.std.proofs.Common.{ℕ, ◌<◌, subst}
use Rattle.biblatex_fields.specs.Slots.{slot}
use Rattle.biblatex_fields.proofs.SlotsMarks.{marked_too}
use Rattle.biblatex_fields.proofs.slots.Slots.mark.Goals as goal

pub returns : goal.returns
returns c q =
    let below = subst (λ (index : ℕ). index < 64) c.slot_of.ensures.slot c.slot_of.ensures.below in
    rw c.slot_of.ensures.slot (marked_too c.args.self.now.marks (slot c.args.name.now) below (slot q))
