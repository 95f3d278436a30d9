use Rattle.std.proofs.Common.{[], List, map, None, ap, ◌∙◌}
use Rattle.std.specs.Prelude.{if◌then◌else◌}
use Rattle.std.proofs.lemmas.List.{take_all}
use Rattle.biblatex_fields.specs.Fields.{value_named}
use Rattle.biblatex_inherited_fields.specs.Table.{is_among}
use Rattle.biblatex_suppliers.specs.FieldNames.{field_name}
use Rattle.biblatex_suppliers.specs.Suppliers.{seen}
use Rattle.biblatex_suppliers.specs.declared.names.FieldName.{FieldName}
use Rattle.biblatex_suppliers.specs.Written.{written_view}
use Rattle.biblatex_suppliers.proofs.PassingAsked.{names_more}
use Rattle.biblatex_suppliers.proofs.made.named_fields.Goals as goal

pub loop-name-init : goal.loop-name-init
loop-name-init c = λ q. ap (value_named q) c.new-fields.ensures

pub loop-name-preserved : goal.loop-name-preserved
loop-name-preserved c =
    names_more (λ q. seen (written_view c.args.entries.now) c.args.supplies.now c.args.number q) [] c.loop-name.fields c.put_seen.new.fields c.args.names.now c.loop-name.name-index _ c.loop-name-test.true c.loop-name.invariant c.in_ok-put_seen.ensures

pub returns : goal.returns
returns c = λ q.
    c.loop-name.invariant q
    ∙ ap (λ (ns : List FieldName). if is_among (map field_name ns) q then seen (written_view c.args.entries.now) c.args.supplies.now c.args.number q else None) (take_all c.loop-name.name-index c.args.names.now c.loop-name-test.false)
