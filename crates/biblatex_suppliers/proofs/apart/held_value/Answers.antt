use Rattle.std.proofs.Common.{◌≡◌, Option, Some, None, sym, ap, ◌∙◌}
use Rattle.std.specs.Prelude.{IfSome}
use Rattle.std.proofs.lemmas.Result.{IfOk-weaker}
use Rattle.biblatex_fields.specs.Value.{Value, field_value_view}
use Rattle.biblatex_suppliers.proofs.apart.held_value.Goals as goal

found : {R : Type 0} (o : Option R) (f : R → Value) (v : Value) (w : Option Value) → w ≡ Some v → IfSome o (λ r. v ≡ f r) → IfSome o (λ r. w ≡ Some (f r))
found None f v w at is = tt
found (Some r) f v w at is = at ∙ ap Some is

pub returns-in-Some : goal.returns-in-Some
returns-in-Some c =
    IfOk-weaker c.long_value.result _ _ (λ o held. found o (λ r. field_value_view r.value.items) (field_value_view c.in-Some.value.now.items) _ (sym c.in-Some.ensures) held) c.long_value.ensures
