use Rattle.biblatex_inherited_fields.specs.Table.{source_name}
use Rattle.biblatex_suppliers.specs.Suppliers.{supplied_fields, seen}
use Rattle.biblatex_suppliers.specs.Written.{written_view}
use Rattle.biblatex_suppliers.proofs.PassingAsked.{names_more}
use Rattle.biblatex_suppliers.proofs.passing.push_named.Goals as goal

pub loop-name-preserved : goal.loop-name-preserved
loop-name-preserved c =
    let es = written_view c.args.entries.now in
    names_more (λ q. seen es c.args.supplies.now c.args.reference (source_name c.args.to c.args.from q)) (supplied_fields es c.args.suppliers.now.items) (supplied_fields es c.loop-name.suppliers.items) (supplied_fields es c.push_seen.new.suppliers.items)
    c.args.names.now c.loop-name.name-index _ c.loop-name-test.true c.loop-name.invariant c.in_ok-push_seen.ensures
