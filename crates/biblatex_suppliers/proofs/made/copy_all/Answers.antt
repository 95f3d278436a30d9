use Rattle.std.proofs.Common.{List, ℕ, None, Some, string_bytes, subst, sym}
use Rattle.std.specs.Prelude.{if◌then◌else◌}
use Rattle.std.specs.Str.{bytes_eq}
use Rattle.biblatex_fields.specs.Fields.{Named, value_named}
use Rattle.biblatex_fields.specs.Value.{field_value_view}
use Rattle.biblatex_inherited_fields.specs.Views.{PassesOn, borrowed_fields_view}
use Rattle.biblatex_inherited_fields.proofs.TablePassing.{borrowed_last, borrowed_more}
use Rattle.biblatex_suppliers.proofs.SupplyingValues.{field_more}
use Rattle.biblatex_suppliers.proofs.made.copy_all.Goals as goal

pub loop-name-preserved : goal.loop-name-preserved
loop-name-preserved c =
    let name = string_bytes c.in-Some.name.now in
    let value = field_value_view c.in-Some.value.now.items in (
      subst (λ (fs : List Named). PassesOn c.args.fields.now c.put_lacking.new.fields (λ q. value_named q fs)) (sym (borrowed_last c.loop-name.yielded c.in-Some.name c.in-Some.value))
          (field_more c.args.fields.now c.loop-name.fields c.put_lacking.new.fields (borrowed_fields_view c.loop-name.yielded) name value c.loop-name.invariant.0
          (subst (λ (n : List ℕ). PassesOn c.loop-name.fields c.put_lacking.new.fields (λ q. if bytes_eq q n then Some value else None)) c.as_str.ensures.value c.in_ok-put_lacking.ensures)),
      borrowed_more c.args.from.now c.loop-name.yielded c.in-Some.name c.in-Some.value _ _ c.loop-name.invariant.1 c.in-Some.ensures.steps,
    )
