use Rattle.std.proofs.Common.{List, ℕ, sym, ap, ◌∙◌}
use Rattle.biblatex_fields.specs.Fields.{value_named}
use Rattle.biblatex_suppliers.specs.Written.{is_said}
use Rattle.biblatex_suppliers.proofs.apart.set_field_aside.Goals as goal

pub put_beside-requires-clause-said : goal.put_beside-requires-clause-said
put_beside-requires-clause-said c = sym (ap is_said c.as_str.ensures.value) ∙ (sym c.is_said.ensures ∙ c.if-is_said.false)

pub put_beside-requires-clause-value : goal.put_beside-requires-clause-value
put_beside-requires-clause-value c = sym (ap (λ (n : List ℕ). value_named n c.args.entry.now.fields) c.as_str-2.ensures.value) ∙ (rw c.in-Some.is at c.in_ok-held.ensures)
