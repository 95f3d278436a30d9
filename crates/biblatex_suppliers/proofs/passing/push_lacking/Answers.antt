use Rattle.std.proofs.Common.{ℕ, List, sym, ap, ◌∙◌}
use Rattle.std.specs.Option.{is_some}
use Rattle.biblatex_fields.specs.Fields.{value_named}
use Rattle.biblatex_suppliers.specs.FieldNames.{field_name}
use Rattle.biblatex_suppliers.specs.Suppliers.{supplied_fields, supplier_named}
use Rattle.biblatex_suppliers.specs.declared.supplier.Supplied.{Supplied}
use Rattle.biblatex_suppliers.proofs.SupplyingValues.{supplied_more}
use Rattle.biblatex_suppliers.proofs.PassingAsked.{there_stays}
use Rattle.biblatex_suppliers.proofs.passing.push_lacking.Goals as goal

pub returns-then-is_some : goal.returns-then-is_some
returns-then-is_some c = λ es q.
    let ss = c.args.suppliers.now.items in
    let name = field_name c.args.wanted in
    let named = c.supplier_named.ensures ∙ (ap (λ (n : List ℕ). supplier_named n c.as_slice.result.now) c.text.ensures ∙ ap (λ (xs : List Supplied). supplier_named name xs) c.as_slice.ensures.value) in
    there_stays es ss name c.args.supplier (ap is_some (sym named) ∙ (sym c.is_some.ensures ∙ c.if-is_some.true)) q

pub returns : goal.returns
returns c = λ es q.
    ap (λ (ss : List Supplied). value_named q (supplied_fields es ss)) c.in_ok-push.ensures.items ∙ supplied_more es c.args.suppliers.now.items (record { name = c.args.wanted; supplier = c.args.supplier }) q
