use Rattle.std.proofs.Common.{sym, ap, ◌∙◌}
use Rattle.literature_entries.specs.Fields.{Fields, nothing_but}
use Rattle.interop_values.specs.Values.{values}
use Rattle.interop.specs.Fields.{own_fields}
use Rattle.interop.proofs.fields.own_entry.Goals as goal

-- an entry that was just made has no fields
pub set_own_fields-requires-clause-bare : goal.set_own_fields-requires-clause-bare
set_own_fields-requires-clause-bare c = c.new-entry.ensures.fields ∙ ap (λ (fs : Fields). nothing_but fs.entry_type) (sym c.new-entry.ensures.fields)

pub returns-clause-key : goal.returns-clause-key
returns-clause-key c = c.in_ok-set_own_fields.ensures.0 ∙ c.new-entry.ensures.key

pub returns-clause-fields : goal.returns-clause-fields
returns-clause-fields c =
    c.in_ok-set_own_fields.ensures.1
    ∙ ap (λ (fs : Fields). own_fields (values c.args.fields.now) fs.entry_type) c.new-entry.ensures.fields

pub returns-clause-parents : goal.returns-clause-parents
returns-clause-parents c = c.in_ok-set_own_fields.ensures.2 ∙ c.new-entry.ensures.parents
