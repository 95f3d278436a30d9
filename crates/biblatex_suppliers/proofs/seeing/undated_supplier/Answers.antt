use Rattle.std.proofs.Common.{ℕ, List, slice_get, option_map, sym, ap, ◌∙◌}
use Rattle.biblatex_fields.specs.Fields.{value_named}
use Rattle.biblatex_suppliers.specs.FieldNames.{field_name}
use Rattle.biblatex_suppliers.specs.Suppliers.{own_of, supplied, supplied_fields, supplier_named}
use Rattle.biblatex_suppliers.specs.declared.supplier.Supplied.{Supplied}
use Rattle.biblatex_suppliers.specs.Written.{written_view}
use Rattle.biblatex_suppliers.proofs.SupplyingValues.{own_stands, own_lacks, supplied_is}
use Rattle.biblatex_suppliers.proofs.seeing.undated_supplier.Goals as goal

pub returns-then-has_own : goal.returns-then-has_own
returns-then-has_own c =
    let es = written_view c.args.entries.now in
    let name = field_name c.args.name in
    own_stands (own_of (slice_get es c.args.number) name) (value_named name (supplied_fields es c.args.known.now.suppliers.items)) (sym c.has_own.ensures ∙ c.if-has_own.true)

pub returns : goal.returns
returns c =
    let es = written_view c.args.entries.now in
    let name = field_name c.args.name in
    let ss = c.args.known.now.suppliers.items in
    let named = c.supplier_named.ensures ∙ (ap (λ (n : List ℕ). supplier_named n c.as_slice.result.now) c.text.ensures ∙ ap (λ (xs : List Supplied). supplier_named name xs) c.as_slice.ensures.value) in
    ap (option_map (supplied es)) named ∙ (supplied_is es name ss ∙ own_lacks (own_of (slice_get es c.args.number) name) (value_named name (supplied_fields es ss)) (sym c.has_own.ensures ∙ c.if-has_own.false))
