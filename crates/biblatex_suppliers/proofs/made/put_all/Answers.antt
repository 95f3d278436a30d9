use Rattle.std.proofs.Common.{List, ap, sym, ◌∙◌}
use Rattle.std.proofs.lemmas.List.{take_all}
use Rattle.biblatex_fields.specs.Fields.{value_named}
use Rattle.biblatex_inherited_fields.specs.Offered.{first}
use Rattle.biblatex_inheritance.proofs.ResolvedReferences.{first_none}
use Rattle.biblatex_suppliers.specs.Suppliers.{supplied_fields}
use Rattle.biblatex_suppliers.specs.declared.supplier.Supplied.{Supplied}
use Rattle.biblatex_suppliers.specs.Written.{written_view}
use Rattle.biblatex_suppliers.proofs.SupplyingValues.{fields_more}
use Rattle.biblatex_suppliers.proofs.made.put_all.Goals as goal

pub loop-supplied-init : goal.loop-supplied-init
loop-supplied-init c = λ q. sym (first_none (value_named q c.args.fields.now))

pub loop-supplied-preserved : goal.loop-supplied-preserved
loop-supplied-preserved c =
    fields_more (written_view c.args.entries.now) c.args.suppliers.now c.loop-supplied.supplied-index _ c.args.fields.now c.loop-supplied.fields c.put_inherited.new.fields c.loop-supplied-test.true c.loop-supplied.invariant c.in_ok-put_inherited.ensures

pub returns : goal.returns
returns c = λ q.
    c.loop-supplied.invariant q
    ∙ ap (λ (ss : List Supplied). first (value_named q c.args.fields.now) (value_named q (supplied_fields (written_view c.args.entries.now) ss))) (take_all c.loop-supplied.supplied-index c.args.suppliers.now c.loop-supplied-test.false)
