use Rattle.std.proofs.Common.{Option, sym, ap, ◌∙◌}
use Rattle.biblatex_suppliers.specs.Suppliers.{seen_by}
use Rattle.biblatex_suppliers.specs.declared.supplier.Supplies.{Supplies}
use Rattle.biblatex_suppliers.specs.Written.{written_view}
use Rattle.biblatex_suppliers.proofs.MakingEntries.{on_true}
use Rattle.biblatex_suppliers.proofs.entries.is_whole.Goals as goal

pub returns-in-Some : goal.returns-in-Some
returns-in-Some c =
    on_true c.has_all.result (λ same q. sym (ap (λ (o : Option Supplies). seen_by (written_view c.args.entries.now) c.args.number o q) c.in-Some.ensures) ∙ same q) c.has_all.ensures
