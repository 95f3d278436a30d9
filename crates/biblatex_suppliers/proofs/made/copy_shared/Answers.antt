use Rattle.std.proofs.Common.{List, Vec, Global, ap, sym, ◌∙◌}
use Rattle.std.proofs.lemmas.List.{take_all}
use Rattle.biblatex_text.specs.declared.spanned.Spanned.{Spanned}
use Rattle.biblatex_content.specs.declared.chunk.Chunk.{Chunk}
use Rattle.biblatex_fields.specs.Fields.{value_named}
use Rattle.biblatex_fields.specs.Value.{field_value_view}
use Rattle.biblatex_inherited_fields.specs.Offered.{first}
use Rattle.biblatex_inheritance.proofs.ResolvedReferences.{first_none}
use Rattle.biblatex_suppliers.specs.Written.{shared_named}
use Rattle.biblatex_suppliers.specs.declared.shared.Shared.{Shared}
use Rattle.biblatex_suppliers.proofs.WrittenEntries.{shared_more}
use Rattle.biblatex_suppliers.proofs.made.copy_shared.Goals as goal

pub loop-field-init : goal.loop-field-init
loop-field-init c = λ q. sym (first_none (value_named q c.args.fields.now))

pub loop-field-preserved : goal.loop-field-preserved
loop-field-preserved c =
    shared_more c.args.shared.now c.loop-field.field-index c.field-item.result c.args.fields.now c.loop-field.fields c.put_lacking.new.fields c.as_str.result.now c.as_ref.result.now.items c.loop-field-test.true c.field-item.is c.loop-field.invariant
    c.as_str.ensures.value (ap (λ (v : Vec (Spanned Chunk) Global). field_value_view v.items) c.as_ref.ensures) c.in_ok-put_lacking.ensures

pub returns : goal.returns
returns c = λ q.
    c.loop-field.invariant q
    ∙ ap (λ (ss : List Shared). first (value_named q c.args.fields.now) (shared_named q ss)) (take_all c.loop-field.field-index c.args.shared.now c.loop-field-test.false)
