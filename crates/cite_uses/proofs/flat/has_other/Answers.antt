use Rattle.std.proofs.Common.{ℕ, List, Option, ap, ◌∙◌}
use Rattle.std.specs.Prelude.{is_some, option_and_then}
use Rattle.biblatex.specs.Fields.{value_named}
use Rattle.biblatex.specs.Value.{field_value_view}
use Rattle.cite_uses.proofs.WrittenApart.{there_if}
use Rattle.cite_uses.proofs.flat.has_other.Goals as goal

pub returns-in-Some : goal.returns-in-Some
returns-in-Some c =
    c.is_some.ensures
    ∙ there_if c.get.result (λ v. field_value_view v.now.items) _ c.get.ensures
    ∙ ap (λ (o : Option (List ℕ)). is_some (option_and_then (λ other. value_named other c.args.fields.now) o)) c.in-Some.ensures
