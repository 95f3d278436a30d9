use Rattle.std.proofs.Common.{ℕ, List, Option, ap, ◌∙◌}
use Rattle.std.specs.Option.{unwrap_or}
use Rattle.biblatex_suppliers.specs.FieldNames.{special_name}
use Rattle.biblatex_suppliers.proofs.names.FieldName.text.Goals as goal

pub returns-in-Some : goal.returns-in-Some
returns-in-Some c = ap (λ (o : Option (List ℕ)). unwrap_or o (special_name c.args.self)) c.in-Some.ensures

pub returns-in-None : goal.returns-in-None
returns-in-None c = c.special.ensures ∙ ap (λ (o : Option (List ℕ)). unwrap_or o (special_name c.args.self)) c.in-None.ensures
