use Rattle.std.proofs.Common.{true, cond, nat_cmp, ◌∙◌}
use Rattle.std.specs.BTreeSet.{contains}
use Rattle.std.specs.Cmp.{unsigned_tied}
use Rattle.driver_disambiguation.proofs.entry_sets.insert_entry.Goals as goal

pub returns-clause-entries : goal.returns-clause-entries
returns-clause-entries c = λ e.
    c.in_ok-added.ensures.updates.0 e ∙ (λ j. cond (unsigned_tied c.args.entry e j) true (contains nat_cmp c.args.entries.now e))
