use Rattle.std.proofs.Common.{map}
use Rattle.std.proofs.lemmas.Result.{on_ok_weaker}
use Rattle.biblatex_suppliers.specs.FieldNames.{field_name}
use Rattle.biblatex_suppliers.specs.Suppliers.{supplied_fields, seen}
use Rattle.biblatex_suppliers.specs.Written.{written_view}
use Rattle.biblatex_suppliers.proofs.PassingAsked.{to_xdata, to_others}
use Rattle.biblatex_suppliers.proofs.passing.push_offered.Goals as goal

pub returns-in-XData : goal.returns-in-XData
returns-in-XData c =
    let es = written_view c.args.entries.now in
    on_ok_weaker c.push_all.result
    (to_xdata c.args.to c.args.from (seen es c.args.supplies.now c.args.reference) (supplied_fields es c.args.suppliers.now.items) (supplied_fields es c.push_all.new.suppliers.items) c.in-XData.is) c.push_all.ensures

pub returns-in_default : goal.returns-in_default
returns-in_default c =
    let es = written_view c.args.entries.now in
    on_ok_weaker c.push_both.result
    (to_others c.args.to c.args.from (seen es c.args.supplies.now c.args.reference) (supplied_fields es c.args.suppliers.now.items) (supplied_fields es c.push_both.new.suppliers.items) (map field_name c.further.result.now) c.in_default.not-XData c.further.ensures)
    c.push_both.ensures
