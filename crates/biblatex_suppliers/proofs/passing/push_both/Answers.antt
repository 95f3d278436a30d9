use Rattle.std.proofs.Common.{ℕ, List, map, None, subst}
use Rattle.std.specs.Prelude.{if◌then◌else◌}
use Rattle.std.proofs.lemmas.Result.{on_ok_weaker}
use Rattle.biblatex_inherited_fields.specs.Table.{is_among, of_all, source_name}
use Rattle.biblatex_inherited_fields.specs.Views.{PassesOn}
use Rattle.biblatex_suppliers.specs.FieldNames.{field_name}
use Rattle.biblatex_suppliers.specs.Suppliers.{supplied_fields, seen}
use Rattle.biblatex_suppliers.specs.Written.{written_view}
use Rattle.biblatex_suppliers.proofs.PassingAsked.{both_passed}
use Rattle.biblatex_suppliers.proofs.passing.push_both.Goals as goal

pub returns : goal.returns
returns c =
    let es = written_view c.args.entries.now in
    let old = supplied_fields es c.args.suppliers.now.items in
    let mid = supplied_fields es c.push_named.new.suppliers.items in
    on_ok_weaker c.push_named-2.result (λ more.
    both_passed (λ q. seen es c.args.supplies.now c.args.reference (source_name c.args.to c.args.from q)) old mid (supplied_fields es c.push_named-2.new.suppliers.items) (is_among of_all) (is_among (map field_name c.args.names.now))
    (subst (λ (ns : List (List ℕ)). PassesOn old mid (λ q. if is_among ns q then seen es c.args.supplies.now c.args.reference (source_name c.args.to c.args.from q) else None)) c.of_all.ensures c.in_ok-push_named.ensures) more)
    c.push_named-2.ensures
