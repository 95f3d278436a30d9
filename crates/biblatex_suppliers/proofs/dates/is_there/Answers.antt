use Rattle.std.proofs.Common.{slice_get, sym, ◌∙◌}
use Rattle.biblatex_entries.specs.Entries.{Source}
use Rattle.biblatex_entries.specs.Roles.{role_of}
use Rattle.biblatex_suppliers.specs.Written.{written_view}
use Rattle.biblatex_suppliers.proofs.SupplyingValues.{mapped_some}
use Rattle.biblatex_suppliers.proofs.dates.is_there.Goals as goal

pub returns : goal.returns
returns c =
    c.is_some.ensures
    ∙ sym (mapped_some (λ (e : Source). role_of e.entry_type) (slice_get (written_view c.args.entries.now) c.args.number) c.role_at.result (sym c.role_at.ensures))
