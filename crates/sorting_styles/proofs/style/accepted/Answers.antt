use Rattle.sorting_styles.proofs.style.accepted.Goals as goal

pub unreachable-requires : goal.unreachable-requires
unreachable-requires c =
    let refused = rw c.in-Err-MacroRing.field-0-is at c.in-Err-MacroRing.ensures.answer in
    c.requires.0 refused.0 refused.1.ring
