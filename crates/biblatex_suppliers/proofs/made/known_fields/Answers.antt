use Rattle.biblatex_suppliers.specs.Written.{written_view}
use Rattle.biblatex_suppliers.proofs.SupplyingValues.{made_is}
use Rattle.biblatex_suppliers.proofs.made.known_fields.Goals as goal

pub returns : goal.returns
returns c =
    made_is (written_view c.args.entries.now) c.args.number c.args.known.now _ c.put_all.new.fields c.put_date.new.fields c.as_slice.result.now c.as_slice.ensures.value c.in_ok-fields.ensures c.in_ok-put_all.ensures c.in_ok-put_date.ensures
