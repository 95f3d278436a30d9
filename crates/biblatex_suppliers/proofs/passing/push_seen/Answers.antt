use Rattle.std.proofs.Common.{Option, None, bytes_eq, sym, ap, ◌∙◌}
use Rattle.std.specs.Prelude.{if◌then◌else◌}
use Rattle.std.proofs.lemmas.Result.{on_ok_weaker}
use Rattle.biblatex_fields.specs.Fields.{value_named}
use Rattle.biblatex_fields.specs.Value.{Value}
use Rattle.biblatex_inherited_fields.specs.Offered.{first}
use Rattle.biblatex_inherited_fields.specs.Table.{source_name}
use Rattle.biblatex_suppliers.specs.FieldNames.{field_name}
use Rattle.biblatex_suppliers.specs.Suppliers.{supplied_fields, seen}
use Rattle.biblatex_suppliers.specs.Written.{written_view}
use Rattle.biblatex_suppliers.proofs.PassingAsked.{nothing_under}
use Rattle.biblatex_suppliers.proofs.passing.push_seen.Goals as goal

pub returns-in-Some : goal.returns-in-Some
returns-in-Some c =
    let es = written_view c.args.entries.now in
    let here = c.in-Some.ensures ∙ ap (seen es c.args.supplies.now c.args.reference) c.source_of.ensures in
    on_ok_weaker c.push_lacking.result (λ passes q.
    passes es q ∙ ap (λ (o : Option Value). first (value_named q (supplied_fields es c.args.suppliers.now.items)) (if bytes_eq q (field_name c.args.wanted) then o else None)) here) c.push_lacking.ensures

pub returns-in-None : goal.returns-in-None
returns-in-None c = λ q.
    let es = written_view c.args.entries.now in
    let here = c.in-None.ensures ∙ ap (seen es c.args.supplies.now c.args.reference) c.source_of.ensures in
    nothing_under (value_named q (supplied_fields es c.args.suppliers.now.items)) (seen es c.args.supplies.now c.args.reference (source_name c.args.to c.args.from (field_name c.args.wanted))) (bytes_eq q (field_name c.args.wanted)) (sym here)
